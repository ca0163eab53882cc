-- What is said of a bit.
pub mod Sayings
pub mod Shorts
