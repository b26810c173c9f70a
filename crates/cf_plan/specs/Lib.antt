pub mod Drafts
pub mod Faults
pub mod Growing
pub mod Laws
pub mod Rows
pub mod AttachedLists
