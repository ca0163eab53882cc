pub mod BitByBit
pub mod SoFar
