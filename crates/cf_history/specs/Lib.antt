pub mod Records
pub mod Histories
pub mod Verdicts
pub mod Callers
pub mod Shared
pub mod Laws
