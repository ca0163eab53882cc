pub mod FrameLemmas
pub mod MessageLemmas
pub mod RegisterLemmas
pub mod BufferLemmas
