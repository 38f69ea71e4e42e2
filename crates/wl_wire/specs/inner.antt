pub mod Wires
pub mod Turns
