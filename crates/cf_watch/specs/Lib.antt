pub mod Calls
pub mod Watches
pub mod Laws
