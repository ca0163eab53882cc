-- How the writer goes from bit to bit.
pub mod CandumpProgress
