pub mod Order
pub mod Place
pub mod Edits
pub mod Fitting
pub mod DueNotices
pub mod ByRequest
pub mod Lookup
