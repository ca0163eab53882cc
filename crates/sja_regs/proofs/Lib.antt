pub mod Calls
pub mod BusTurns
