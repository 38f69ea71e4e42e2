pub mod Keepers
pub mod Locked
pub mod Aborts
