pub mod Requests
pub mod AgentIndex
pub mod Views
pub mod Worlds
