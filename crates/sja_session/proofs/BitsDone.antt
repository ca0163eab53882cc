-- Bits of a session, its looks and its strikes.
pub mod AfterBits
pub mod BitsRun
pub mod RestRun
pub mod PlaceRun
pub mod Looked
