-- What a driver did, step by step, and after which bits.
pub mod Windows
pub mod AbortsFirst
pub mod TbsAndAbort
pub mod StepRunActs
pub mod Stays
