-- The nodes, entries and errors of a run that was tried.
pub mod ErrorLemmas
pub mod Entries
pub mod RunFaults
