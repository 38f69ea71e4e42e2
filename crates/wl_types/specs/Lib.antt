pub mod Words
pub mod Refusals
pub mod Names
pub mod Asks
pub mod Client
pub mod Phases
