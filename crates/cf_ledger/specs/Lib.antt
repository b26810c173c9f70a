pub mod News
pub mod Ledgers
pub mod Steps
pub mod Books
