-- The log of a driver, act by act.
pub mod Sections
pub mod Stepping
pub mod Going
pub mod Traced
pub mod Logged
pub mod Looking
pub mod GivenOutside
