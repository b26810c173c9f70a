pub mod Stages
pub mod Trees
pub mod Histories
pub mod Gathers
