pub mod Growing
pub mod JournalEntries
pub mod Ledger
pub mod HistoryLists
pub mod Walks
