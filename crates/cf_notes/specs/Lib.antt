pub mod Noting
pub mod NoteWords
pub mod Tables
