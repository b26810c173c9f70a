pub mod Escapes
pub mod Laws
pub mod Parts
pub mod Tales
pub mod Texts
