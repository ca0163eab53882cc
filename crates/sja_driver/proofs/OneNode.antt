-- One node, as its driver goes on and as bits run.
pub mod Asked
pub mod Counting
pub mod Ports
pub mod Room
pub mod Settings
pub mod Shown
pub mod StillShown
pub mod Slices
