pub mod Pieces
pub mod Ends
pub mod Entries
pub mod AtOnce
pub mod Scripts
pub mod Replies
pub mod Audits
