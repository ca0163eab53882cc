-- How far a list of bit events came, and which of them stands where.
pub mod Coming
