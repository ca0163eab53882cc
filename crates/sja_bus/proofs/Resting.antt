-- Bits in which all nodes are at rest.
pub mod Unstruck
pub mod Rests
pub mod Placed
pub mod AtRest
pub mod Stretches
pub mod WholeStretches
pub mod QuietBits
