-- A reader of one level at a time.
pub mod Inside
