pub mod Pieces
pub mod Saying
