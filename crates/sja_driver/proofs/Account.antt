-- What was put, got, released and is left, by journal and acts.
pub mod Counts
pub mod Dry
pub mod Own
