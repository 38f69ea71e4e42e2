pub mod Epochs
pub mod Lists
