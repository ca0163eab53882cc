-- The level that several nodes drive together.
pub mod BusLevel
pub mod Acknowledging
pub mod Arbitration
pub mod Body
pub mod Check
pub mod Digits
pub mod Fields
pub mod FramePlaces
pub mod Line
pub mod Places
pub mod Reading
pub mod Segments
pub mod Spelling
pub mod Streaming
pub mod Stuffing
pub mod PartSoFar
pub mod DataBits
pub mod Judgements

-- ---- the face: the lemmas that proofs of other crates cite
-- face: proofs.Checks.{Crc-unique, Crc_exists, Divided}
-- face: proofs.Ending.{begins_front, begins_in, line_at, part_begins, same_part, same_spelling}
-- face: proofs.LineEnds.{over_part}
-- face: proofs.LineLaws.{lines_agree}
-- face: proofs.NextOnce.{IsNext-unique, after_once, past_here}
-- face: proofs.Packing.Frames.{count_most, first_levels}
-- face: proofs.Parts.{plain}
-- face: proofs.PlaceLemmas.{code_early, five-is, part_late, plain_count-is, stuff_early}
-- face: proofs.Products.{multiples_agree}
-- face: proofs.Readables.{breaks_not_readable, faultless_readable, open_readable, part_readable, readable_but}
-- face: proofs.Readables.{readable_front, wrong_whole}
-- face: proofs.Reader.Inside.{not_past, wrong_sixth}
-- face: proofs.Runs.{IsShort, ends_in_run, run, run-other, run-same, run_ends, run_one_more}
-- face: proofs.SaidCounts.{length_body, length_head, whole_has_fields}
-- face: proofs.Stuffs.{unstuffed, unstuffed-kept}
-- face: proofs.Values.{bits-value, dominant_by, length-bits, level-digit, recessive_by, value-append}
-- face: proofs.Values.{value-append-bits, value-lt}
-- face: proofs.Whole.Bytes.{Writes, length_bytes}
-- face: proofs.Whole.Faultless.{faultless_next}
