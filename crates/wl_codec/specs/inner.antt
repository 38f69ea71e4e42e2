pub mod Gives
pub mod Pieces
pub mod Seen
