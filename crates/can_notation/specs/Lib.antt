pub mod Digits
pub mod Text
pub mod Faults
pub mod Rest
