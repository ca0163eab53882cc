-- A line that is added to a text.
pub mod Lines
