-- What a line is answered.
pub mod Writable
pub mod Asked
pub mod Placed
pub mod Told
pub mod LineAnswers
