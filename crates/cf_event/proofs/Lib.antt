pub mod AttachLemmas
pub mod WordLemmas
pub mod Replays
pub mod Events
pub mod Histories
