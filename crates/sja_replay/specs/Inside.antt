-- How a replay goes from entry to entry.
pub mod Walking

-- Entries of which the first tells nothing of the bit before them: of proofs alone, here and in the crates above.
