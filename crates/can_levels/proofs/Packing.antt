-- Levels kept as one number.
pub mod Frames
pub mod Words
