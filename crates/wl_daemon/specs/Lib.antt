pub mod Entry
pub mod Desks
pub mod Epochs
pub mod Fencing
