pub mod Working
pub mod Reports
pub mod Printing
pub mod Runs
pub mod Races
pub mod Laws
