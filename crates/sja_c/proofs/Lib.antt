pub mod Walks
pub mod WithNumbers
pub mod WithText
pub mod AtHandle
pub mod OwnedParts
