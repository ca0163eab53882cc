-- What a driver did, step by step, and after which bits.
pub mod Fronts
pub mod Later
pub mod Moments
pub mod Stepping
pub mod Timings
pub mod AbortsDue
pub mod Waiting
