-- A whole line, read at once.
pub mod Bytes
pub mod Decoding
pub mod Faultless
pub mod OneSpelling
pub mod Steps
pub mod Stops
pub mod Verdicts
