pub mod Forms
pub mod Meanings
pub mod Naming
pub mod Plans
