pub mod Clients
pub mod Opening
pub mod Directory
pub mod Listing
pub mod inner
