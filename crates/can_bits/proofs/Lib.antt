-- Lists, digits and runs of levels.
-- The CRC sequence.
-- What a body says of itself.
-- Bit stuffing, and where a stuffed part ends.
-- Whole lines.
pub mod Whole
-- Levels kept as one number.
pub mod Packing
-- A reader of one level at a time, and a transmitter.
pub mod Reader
pub mod DueLemmas
pub mod NextLevels
pub mod PackedLevels
pub mod Agreeing
