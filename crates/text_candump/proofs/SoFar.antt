-- How far the bits of each node came, and the text of their stories so far.
pub mod Silent
pub mod Resting
pub mod Stories
pub mod UpTo
