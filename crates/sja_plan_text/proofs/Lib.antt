pub mod Spelling
pub mod Tables
pub mod Documents
