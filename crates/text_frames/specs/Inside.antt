-- How a list of frames is made bit by bit.
pub mod Walking
