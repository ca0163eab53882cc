-- ---- names and words
pub mod Names
pub mod Places
-- ---- the events of a bit
pub mod Events
pub mod BitEvents
pub mod Causes
-- ---- the bits of a node, one after another
pub mod Telling
-- ---- the text
pub mod TraceText
pub mod StoredLines
pub mod Hands
pub mod Passing
pub mod TraceProgress
pub mod TraceRest
-- ---- how the node traces of nodes and the writer of a trace go on: definitions of the contracts of those alone
pub mod Inside

-- ---- the face: the lemmas that proofs of other crates cite
-- face: proofs.BitSaid.Shorts.{no_start}
-- face: proofs.Stories.Telling.{before_same}
