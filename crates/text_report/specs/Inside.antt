-- How the writer of a report counts and writes.
pub mod Tallies
