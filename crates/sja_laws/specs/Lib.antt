pub mod Promised
pub mod LongerJournals
pub mod Rounds
