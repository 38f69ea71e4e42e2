pub mod Codes
pub mod Worlds
pub mod Handles
pub mod inner
