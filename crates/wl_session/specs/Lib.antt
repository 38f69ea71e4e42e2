pub mod LastReported
pub mod Step
pub mod Planned
pub mod Entries
pub mod Laws
pub mod inner
