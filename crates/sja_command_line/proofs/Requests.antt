-- From the answer of the parser to what the words ask for.
pub mod Parses
pub mod Rows
pub mod Commands
pub mod Filters
pub mod Messages
pub mod Several
pub mod FileNames
pub mod Numbers
