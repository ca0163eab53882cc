-- The lines of a document, and how they are read.
pub mod Lines
pub mod Parsed
pub mod Alike
pub mod ReadPlans
