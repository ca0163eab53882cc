-- Levels kept as one number.
pub mod Numbers
pub mod Marks
pub mod Pushes
pub mod Bodies
pub mod Registers
