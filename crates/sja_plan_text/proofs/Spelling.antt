-- Texts of messages, steps, turns and strikes, word by word.
pub mod Words
pub mod Messages
pub mod Addresses
pub mod BitNames
pub mod Values
pub mod Gathered
pub mod Steps
pub mod Turns
pub mod Strikes
