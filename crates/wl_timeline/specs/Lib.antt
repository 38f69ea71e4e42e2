pub mod Escapes
pub mod Timelines
pub mod inner
