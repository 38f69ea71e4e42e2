pub mod Endings
pub mod Greetings
pub mod Wires
pub mod Turns
pub mod Answers
pub mod inner
