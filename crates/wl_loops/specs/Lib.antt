pub mod Affinity
pub mod Holds
pub mod Sweeps
pub mod Transports
