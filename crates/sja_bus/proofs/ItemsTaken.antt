-- What a node takes from its driver, and what stops it.
pub mod Retrying
pub mod Takings
pub mod OutOfRoom
pub mod Refusing
pub mod Breaking
pub mod BreakingBusNodes
pub mod TakenBefore
