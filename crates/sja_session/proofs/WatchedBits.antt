-- Bits of a session whose interrupt lines are watched.
pub mod QuietBits
pub mod StillLines
pub mod Stretches
