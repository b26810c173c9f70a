pub mod Expressions
pub mod Histories
pub mod Stagewise
pub mod Laws
pub mod Examples
