mod AsBox
pub mod Callers
pub mod Claims
pub mod ClosedLemmas
pub mod CodeNames
pub mod DeskSteps
pub mod EventsBack
pub mod Histories
pub mod HostRows
pub mod Hosts
pub mod LedgerSteps
pub mod News
pub mod RequestRows
pub mod Requests
pub mod Restarts
pub mod Rounds
pub mod Rows
mod Runs
pub mod Seats
pub mod Steps
