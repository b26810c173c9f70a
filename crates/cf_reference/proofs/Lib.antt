pub mod Attaching
pub mod Growing
