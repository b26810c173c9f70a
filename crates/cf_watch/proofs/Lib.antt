pub mod Finding
pub mod Silence
pub mod Beating
