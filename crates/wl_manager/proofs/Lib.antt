mod Publishing
mod Cutting
pub mod Keeping
mod Trying
mod Aborting
pub mod Aborted
pub mod Refused
pub mod Listing
