pub mod Parts
pub mod Steps
pub mod Answers
pub mod Rows
