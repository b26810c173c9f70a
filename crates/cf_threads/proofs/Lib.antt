pub mod Sums
pub mod Tokens
pub mod Kept
pub mod Works
pub mod Dealt
