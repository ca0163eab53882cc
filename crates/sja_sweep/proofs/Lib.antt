pub mod TriedStrikes
pub mod NumberLists
pub mod TriedRuns
