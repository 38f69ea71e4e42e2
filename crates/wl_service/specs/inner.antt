pub mod Clients
pub mod Opening
