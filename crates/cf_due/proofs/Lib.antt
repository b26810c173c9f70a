pub mod Below
pub mod Settled
pub mod Gone
pub mod Calls
pub mod Behind
pub mod AttachedStages
