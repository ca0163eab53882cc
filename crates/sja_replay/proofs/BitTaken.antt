-- A replay after a bit, entry by entry.
pub mod Closings
pub mod Walks
pub mod Judging
pub mod Closes
pub mod Bits
pub mod Passed
pub mod Heard
pub mod Rested
pub mod Silent
