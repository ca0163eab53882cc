-- The bits of a field, and which of them are stuff bits.
pub mod Bits
pub mod Stuffs
