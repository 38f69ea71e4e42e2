pub mod Keepers
pub mod Locked
pub mod Aborts
pub mod Agents
pub mod Listing
pub mod inner
