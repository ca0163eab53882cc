-- How far a list of bit events came, and which of them stands where.
pub mod PastBits
pub mod BitEntries
pub mod Stores
pub mod FrontsPassed
