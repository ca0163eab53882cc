-- The journal of a node, entry by entry.
pub mod Steps
pub mod BitSteps
pub mod OnBus
pub mod Parted
pub mod Reading
pub mod Judging
pub mod Quiet
