-- ---- what a node shows of its next bit, by a cut of its record
pub mod Viewing
-- ---- what comes between two bits, and after a bit
pub mod Taking
pub mod Closing
-- ---- what a bit brought, and the bits of a whole journal
pub mod BitEvent
pub mod Happened
-- ---- a replay, and the journal that it has come through
pub mod Replaying
pub mod ReplayProgress
-- ---- a bit that told nothing, in short
pub mod Short
-- ---- bits of a frame that several nodes receive alike
pub mod Reading
-- ---- bits of a node at rest
pub mod ReplayRest
pub mod Silent
pub mod Stored
pub mod Quiet
-- ---- how a replay goes from entry to entry, and what is known of a node between two bits: definitions of private
-- contracts and of proofs alone
pub mod Inside

-- ---- the face: the lemmas that proofs of other crates cite
-- face: proofs.Listed.Coming.{came_all, came_by, came_first, came_on}
