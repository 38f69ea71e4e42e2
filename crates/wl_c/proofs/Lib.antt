pub mod PointerSteps
mod LooseValues
