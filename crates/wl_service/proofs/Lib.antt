pub mod Opened
pub mod InTurn
