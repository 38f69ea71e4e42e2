pub mod Words
pub mod Rule
pub mod Seats
pub mod Laws
pub use Rattle.wl_types.specs.Phases
pub mod inner
