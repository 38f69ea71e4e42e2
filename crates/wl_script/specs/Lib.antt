pub mod Lines
pub mod Transcript
pub mod Streams
pub mod Faults
pub mod Leaves
pub mod Laws
pub mod Audits
pub mod inner
