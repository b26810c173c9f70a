pub mod Texts
pub mod Names
pub mod Faults
pub mod Records
