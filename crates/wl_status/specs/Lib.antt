pub mod Hosts
pub mod Credentials
pub mod Routes
pub mod inner
