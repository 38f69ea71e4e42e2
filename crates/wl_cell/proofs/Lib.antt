pub mod Steps
pub mod Cuts
pub mod Known
pub mod Apart
