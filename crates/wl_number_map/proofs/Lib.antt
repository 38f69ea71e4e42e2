pub mod InOrder
pub mod Keyed
pub mod Sorted
pub mod First
pub mod Put
pub mod Weaker
