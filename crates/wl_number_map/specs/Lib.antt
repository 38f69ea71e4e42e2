pub mod NumberMap
pub mod Lends
pub mod inner
