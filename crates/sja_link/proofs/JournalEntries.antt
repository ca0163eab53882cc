-- The entries of a journal, and the journal as it is kept.
pub mod ListCounts
pub mod Counting
pub mod Keeping
