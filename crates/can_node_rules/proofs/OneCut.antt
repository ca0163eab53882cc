-- pieces are told apart, a record has one cut, and a cut goes on from where it is open
pub mod Apart
pub mod CutOnce
pub mod DrivenLevels
pub mod Entries
pub mod GoOn
pub mod InterframeSpaces
pub mod KeptLevels
pub mod Longer
pub mod MoveOnce
pub mod Resets
pub mod RowOnce
pub mod SameCuts
pub mod Slices
pub mod Through
pub mod Ways
