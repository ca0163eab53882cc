-- the registers after a step, and what acts are
pub mod Registers
pub mod TypedActs
pub mod Step
pub mod LogOfSteps
pub mod Trace
pub mod Account
pub mod OneNode
pub mod OneBit
pub mod Bytes
