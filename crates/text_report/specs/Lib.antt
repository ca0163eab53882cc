pub mod ReportWords
pub mod Spacing
pub mod ReportLines
-- ---- how the writer of a report counts and writes: definitions of private contracts alone
pub mod Inside

-- ---- the face: the lemmas that proofs of other crates cite
-- face: proofs.NodeTallies.BusLevels.{all_drive, drives_more}
-- face: proofs.WrittenLines.Written.{four_texts, numbered_end, numbered_next, six_texts, three_texts, two_texts}
