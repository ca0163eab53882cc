-- ---- the head of a line
pub mod Lines
-- ---- error frames, and the one that a bit brings
pub mod ControllerStates
pub mod ErrorFrames
pub mod BitErrors
-- ---- the text
pub mod CandumpText
-- ---- how the writer goes on: definitions of private contracts alone
pub mod Inside
