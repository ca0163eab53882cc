-- What is written or looked for, number by number.
pub mod Ranges
pub mod Searches
pub mod Texts
