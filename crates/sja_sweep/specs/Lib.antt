-- ---- what a sweep tries
pub mod Targets
-- ---- what came of a strike
pub mod Nodes
pub mod Errors
pub mod FirstErrors
pub mod Messages
pub mod Steps
pub mod Kinds
pub mod Changes
pub mod Outcome
-- ---- the text
pub mod Spans
pub mod SweepText
-- ---- sweeps
pub mod Sweeps
-- ---- definitions of private contracts alone
pub mod Inside
