pub mod Lines
pub mod SoFar
