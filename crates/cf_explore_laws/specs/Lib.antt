pub mod Tellings
pub mod Reads
pub mod Laws
