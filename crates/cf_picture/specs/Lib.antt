pub mod Pictures
pub mod Fates
