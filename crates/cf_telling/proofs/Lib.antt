mod Escapes
mod Tales
mod Texts
