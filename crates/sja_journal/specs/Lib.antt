pub mod NodeWords
pub mod Sizes
pub mod Places
pub mod Parts
pub mod Carried
pub mod Accounts
pub mod Records
pub mod Free
pub mod Judged
pub mod Verdicts
pub mod Between
pub mod BoundedHistories
pub mod Written
pub mod RestBits
pub mod Lists
pub mod Links
pub mod Opening
pub mod OutOfOrder
pub mod Aborting
pub mod BitEntries
pub mod Activations
pub mod Entries
pub mod Inside

-- ---- the face: the lemmas that proofs of other crates cite
-- face: proofs.Growing.Activations.{has_activations}
-- face: proofs.Growing.AskingOff.{off_before}
-- face: proofs.Growing.Begins.{begins_none, begun_push}
-- face: proofs.Growing.BitRecords.{entries_split, record_bit}
-- face: proofs.Growing.Items.{items_bits, items_none}
-- face: proofs.Growing.Taking.{AtMostOne, adds, some_none, taken_adds, waiting}
-- face: proofs.JournalEntries.EachInPart.{each_part, of_part_at, place_both, record_both}
-- face: proofs.JournalEntries.Entering.{all_rise, bits_counted, item_bits, of_part_later, of_part_none, part_else}
-- face: proofs.JournalEntries.Entering.{part_here, past_rises, place_push, placed_append, record_counted, record_push}
-- face: proofs.JournalEntries.Openings.{part_opens}
-- face: proofs.JournalEntries.Rooms.{HasFree, free_not_full}
-- face: proofs.Ledger.Freeing.{free_push, free_same}
-- face: proofs.Ledger.Judging.{StaysIn, kept_stored, put_stored}
-- face: proofs.Ledger.Small.{neither, no_item, one_item}
-- face: proofs.Ledger.StoredMessages.{AreMessages}
