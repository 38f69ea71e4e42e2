pub mod Scopes
pub mod Targets
pub mod Laws
pub mod Tokens
pub mod Handshakes
pub mod Places
pub mod Loopback
