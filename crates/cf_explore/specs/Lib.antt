pub mod Programs
pub mod Moves
pub mod Situations
pub mod Orders
pub mod Conditions
pub mod Layers
pub mod Spreads
pub mod Found
