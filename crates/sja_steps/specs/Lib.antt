pub mod Ignoring
pub mod Refusals
pub mod Striking
pub mod StepText
