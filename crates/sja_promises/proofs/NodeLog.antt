-- A node put together at the end of a run.
pub mod Logs
pub mod Adding
pub mod Logging
pub mod NodeEnds
pub mod Onward
