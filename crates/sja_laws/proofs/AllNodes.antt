pub mod OneWire
pub mod Bits
pub mod OneRun
