-- The table that stands for a plan while it is written.
pub mod Table
