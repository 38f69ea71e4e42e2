pub mod Progress
pub mod Audits
