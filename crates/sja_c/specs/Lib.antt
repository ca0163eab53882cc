pub mod Answers
pub mod Exports
pub mod Handles
