pub mod BitSaid
pub mod DriverSteps
pub mod Stories
pub mod SoFar
