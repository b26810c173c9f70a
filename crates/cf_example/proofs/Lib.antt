pub mod AnyRow
pub mod Hosts
pub mod WholeRows
pub mod OverCalls
pub mod Settled
pub mod TwoSessions
pub mod Told
pub mod Led
