pub mod Room
pub mod Books
