pub mod JournalEntries
pub mod Ledger
pub mod WorldSteps
pub mod Growing
pub mod QueuedLinks
