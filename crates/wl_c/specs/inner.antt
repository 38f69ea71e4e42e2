pub mod Worlds
pub mod Handles
