-- What is told of nodes, and which lines come of it.
pub mod Telling
pub mod NodeStories
pub mod LogStories
pub mod StoredLines
pub mod Passed
pub mod Rested
pub mod Heard
pub mod Silent
pub mod WrittenBack
