pub mod Deques
pub mod BusLedgers
pub mod DriverLedgers
pub mod Looking
pub mod Showing
pub mod World
pub mod WorldEvents
pub mod Budget
-- ---- the links of a node, and what the bus enters in its journal, item by item and bit by bit
pub mod NewLinks
pub mod Orderly
pub mod Moving
-- ---- how the code keeps a journal and its ledgers: definitions of the private contracts alone
pub mod Inside

-- ---- the face: the lemmas that proofs of other crates cite
-- face: proofs.Growing.Moving.{goes_one, goes_quiet, goes_trans, moves_push, moves_quiet, moves_trans}
-- face: proofs.Growing.Ordered.{acts_in, no_off_put}
-- face: proofs.JournalEntries.ListCounts.{credits_both, messages_both}
-- face: proofs.Ledger.Holding.{told_stored}
-- face: proofs.Ledger.Pullings.{off_both, off_stays}
-- face: proofs.QueuedLinks.Ends.{ends}
-- face: proofs.QueuedLinks.Left.{left_both, left_else, left_here}
