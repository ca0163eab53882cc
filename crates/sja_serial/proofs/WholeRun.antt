-- A run from its beginning to its log.
pub mod GoingOn
pub mod AfterBusTurn
pub mod Steps
pub mod AfterNodeTurn
pub mod AfterRound
pub mod AfterIrq
pub mod Coming
pub mod NextTurn
pub mod Kept
pub mod Left
pub mod AccountsNow
pub mod Ended
pub mod Whole
pub mod Struck
pub mod RowsAdded
