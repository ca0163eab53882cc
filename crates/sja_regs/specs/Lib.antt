pub mod Bits
pub mod Addresses
pub mod Modes
pub mod Statuses
pub mod Interrupting
pub mod ErrorStates
pub mod Captures
pub mod Registers
pub mod Facts
pub mod DriverSettings
pub mod InterruptLine
pub mod Refusals
pub mod Reading
pub mod Writing
pub mod Commands
pub mod Turns
pub mod Preservation
pub mod Calls
pub mod Histories
pub mod Inside

-- ---- the face: the lemmas that proofs of other crates cite
-- face: proofs.BusTurns.SaysTheSame.{says_same}
