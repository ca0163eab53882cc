-- A line as bytes and as words.
pub mod LineBytes
pub mod WordLists
pub mod WayWords
