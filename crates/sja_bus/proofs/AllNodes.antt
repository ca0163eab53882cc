-- The bit of all nodes, and bits one after the other.
pub mod NodeBit
pub mod Many
pub mod Rows
pub mod Running
pub mod Underway
pub mod Levels
pub mod Journals
pub mod Begins
pub mod RunningOn
pub mod BitAfterBit
pub mod RanOn
pub mod SoFar
pub mod UntilTold
pub mod Telling
