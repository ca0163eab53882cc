-- The lines and the text so far.
pub mod InTurn
pub mod Lines
pub mod UpTo
