-- The text so far.
pub mod Written
pub mod UpTo
