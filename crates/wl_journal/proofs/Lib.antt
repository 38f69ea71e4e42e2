pub mod Sums
pub mod Owed
pub mod Growth
pub mod Legal
pub mod Replays
pub mod First
