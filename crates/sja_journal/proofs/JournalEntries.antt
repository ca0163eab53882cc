-- The entries of a journal, and the journal as it is kept.
pub mod Begun
pub mod Blocks
pub mod Decoding
pub mod EachInPart
pub mod Entering
pub mod Filling
pub mod Openings
pub mod RestBits
pub mod Rooms
pub mod Writing
