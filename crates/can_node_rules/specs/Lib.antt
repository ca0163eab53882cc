pub mod Bits
pub mod BetweenBits
pub mod Contending
pub mod Context
pub mod Counting
pub mod Cut
pub mod Driving
pub mod Effects
pub mod Events
pub mod ErrorCode
pub mod FinishedPieces
pub mod Frames
pub mod NextBit
pub mod Pieces
pub mod Record
pub mod Table
pub mod WorkedReception
pub mod Causes
pub mod Outcomes
pub mod UnfinishedPieces
pub mod KeptContexts
pub mod TransmitterCauses

-- ---- the face: the lemmas that proofs of other crates cite
-- face: proofs.Bits.FramePlaces.{frame_seen}
-- face: proofs.Bits.FrameSites.{frame_at, place_of}
-- face: proofs.Contending.FieldLevels.{get-append_left, get-append_right}
-- face: proofs.CutRecords.Fronts.{cut_front}
-- face: proofs.Driven.Records.{a_bit_is_driven}
-- face: proofs.Machine.Along.{along_both, bits_both}
-- face: proofs.Machine.Changes.{KeepsRequest}
-- face: proofs.OneCut.CutOnce.{cut_once, whole_once}
-- face: proofs.OneCut.DrivenLevels.{drives_once}
-- face: proofs.OneCut.Entries.{some_not_none}
-- face: proofs.OneCut.GoOn.{counted_both, inner_both, move_on, no_rest_piece, open_end, open_on, rest_open, stays_end}
-- face: proofs.OneCut.Longer.{received_more, received_now}
-- face: proofs.OneCut.SameCuts.{drives_same, same_bits, same_now, same_phase, same_place}
-- face: proofs.OneCut.Through.{goes_through}
-- face: proofs.Reception.Beginnings.{receives_after_sof}
-- face: proofs.Reception.ReceiverBits.{goes_on, kept_if, receiving_readable}
-- face: proofs.Requests.Cuts.{none_held_first, sent_holds, started_holds, stopped_holds}
-- face: proofs.Requests.FramesReceived.{AreFrames, all_frames}
-- face: proofs.Requests.OneMore.{abort_more}
-- face: proofs.Transmission.OwnBits.{IsOwnBit}
-- face: proofs.Transmission.TransmitterFronts.{transmitting_kept}
-- face: proofs.Transmission.WellNext.{well_readable}
-- face: proofs.Waiting.Delimiters.{eighth_is}
