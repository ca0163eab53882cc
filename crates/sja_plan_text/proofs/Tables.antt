-- The table of a plan, value by value.
pub mod Values
pub mod Shapes
pub mod Plans
pub mod Lists
