pub mod Places
pub mod Verdicts
pub mod Limits
pub mod Idles
pub mod Sights
pub mod Remarks
