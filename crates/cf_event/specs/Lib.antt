pub mod Words
pub mod Decoding
pub mod Events
pub mod Histories
pub mod Laws
pub mod Replays
