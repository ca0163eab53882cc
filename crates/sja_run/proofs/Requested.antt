-- What words ask for, and what becomes of it.
pub mod Talks
pub mod Asked
