pub mod DigitLemmas
pub mod DataLemmas
pub mod IdentifierLemmas
pub mod RestLemmas
pub mod HashLemmas
pub mod FrameLemmas
pub mod AsciiLemmas
