-- A whole line, read at once.
pub mod FirstFault
