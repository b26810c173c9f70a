pub mod Turns
pub mod Slips
pub mod Rooms
pub mod Desks
pub mod Works
pub mod Teams
