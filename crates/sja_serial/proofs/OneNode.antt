-- One node, as its driver goes on and as bits run.
pub mod Alike
pub mod Standing
pub mod Tried
pub mod Taken
pub mod NextStep
pub mod Observed
pub mod Quiet
