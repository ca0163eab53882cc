-- What reads, writes and several calls leave, and what they keep.
pub mod CallLemmas
pub mod HistoryLemmas
pub mod KeepLemmas
pub mod Untouched
