pub mod LastReported
pub mod Places
pub mod Upkeep
