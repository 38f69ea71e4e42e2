pub mod Endpoints
pub mod Daemon
pub mod Words
