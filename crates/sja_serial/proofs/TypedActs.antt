-- A step of a driver, which may be several acts.
pub mod Parts
pub mod Entered
pub mod StepRun
pub mod Writing
