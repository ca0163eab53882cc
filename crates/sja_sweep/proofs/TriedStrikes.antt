-- What a sweep tries, and what came of it.
pub mod Gathers
pub mod TrialLemmas
pub mod TriedLemmas
pub mod JobLemmas
pub mod SpanLemmas
