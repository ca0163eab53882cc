pub mod Spelling
pub mod Replies
pub mod Talks
pub mod Lines
