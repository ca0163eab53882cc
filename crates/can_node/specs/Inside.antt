pub mod Turns
pub mod Quiet
