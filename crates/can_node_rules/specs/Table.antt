-- The table of pieces: which bits each has, where it may stand, and the place after it. "Part A" is Bosch CAN 2.0 part
-- A.
use Rattle.std.specs.Prelude.{◌≡◌, ◌+◌, ◌<◌, ℕ, zero, suc, IsTrue, None, Some, List, [], ◌∷◌, ◌++◌, replicate}
use Rattle.can_levels.specs.declared.level.Level.{Level}
use Rattle.can_levels.specs.declared.level.Level.TheVariants.{Dominant, Recessive}
use Rattle.can_levels.specs.declared.segment.Segment.{Segment}
use Rattle.can_levels.specs.declared.segment.Segment.TheVariants.{ActiveErrorFlag, Delimiter, OverloadFlag}
use Rattle.can_levels.specs.Stuffing.{EndsInEqual}
use Rattle.can_node_rules.specs.declared.cause.Cause.TheVariants.{Bit as BitError, Form as FormError}
use Rattle.can_node_rules.specs.declared.request.Request.{Request}
use Rattle.can_node_rules.specs.Bits.{Bit, recessive_bit, dominant_bit, recessive_bits, dominant_bits, IsFirst}
use Rattle.can_node_rules.specs.declared.flag_kind.FlagKind.{FlagKind}
use Rattle.can_node_rules.specs.Context.{ContextValue, owes_suspension, interframe_count, flag_level, integration_count}
use Rattle.can_node_rules.specs.declared.flag_kind.FlagKind.TheVariants.{ActiveError, PassiveError, Overload}
use Rattle.can_node_rules.specs.Pieces.{Place, Piece, sent_at}
use Rattle.can_node_rules.specs.Pieces.Place.{AtIntegration, AtIdle, AfterSof, AtLastEofBit}
use Rattle.can_node_rules.specs.Pieces.Place.{AtFlag, AtDelimiter, AtInterframeSpace}
use Rattle.can_node_rules.specs.declared.fault_site.FaultSite.TheVariants.{InFlag, InDelimiter}
use Rattle.can_node_rules.specs.Pieces.Piece.{Integration, IdleBit, Fault, LastEofBit, Flag, Delimiter}
use Rattle.can_node_rules.specs.Pieces.Piece.{InterframeSpace, InterframeSpaceWithSof, InterframeSpaceBroken}
use Rattle.can_node_rules.specs.Frames.{Receives, Transmits}

-- the levels end in eleven recessive ones
abbrev pub EndsInEleven : List Level → Type 0
EndsInEleven l = (before : List Level) × (l ≡ before ++ replicate 11 Recessive)

-- n lists one after the other, each with its first eleven successive recessive levels at its end. So no two elevens
-- share a level, and a dominant level begins the current eleven anew
pub data Elevens : ℕ → List Level → Type 0 where
  none_left : Elevens zero []
  one_more : {n : ℕ} {a b l : List Level} → IsFirst EndsInEleven a → Elevens n b → l ≡ a ++ b → Elevens (suc n) l

-- the segment of a fault within a flag (SJA1000 data sheet, 6.4.9); in a passive error flag there is none
abbrev pub flag_segment : FlagKind → Segment
flag_segment ActiveError = ActiveErrorFlag
flag_segment PassiveError = ActiveErrorFlag
flag_segment Overload = OverloadFlag

-- in this context these bits may be this piece at this place, and it leads to that place
pub data Row (c : ContextValue) : Place → List Bit → Piece → Place → Type 0 where
  -- bus integration: eleven recessive levels (ISO 11898-1), 128 times while bus-off stands (part A section 7, rule 12)
  integration : {l : List Level} → Elevens (integration_count c) l →
      Row c AtIntegration (recessive_bits l) Integration AtIdle
  -- an idle bus with nothing to send (part A section 3.1.5)
  idle : sent_at c AtIdle ≡ None → Row c AtIdle (recessive_bit Recessive ∷ []) IdleBit AtIdle
  -- another node's frame, and an own one, from SOF on (part A sections 3.1.1 and 3.1.2)
  other : {bits : List Bit} {piece : Piece} {next : Place} →
      sent_at c AtIdle ≡ None → Receives c.listen (Dominant ∷ []) bits piece next →
      Row c AtIdle (recessive_bit Dominant ∷ bits) piece next
  own : {request : Request} {bits : List Bit} {piece : Piece} {next : Place} →
      sent_at c AtIdle ≡ Some request → Transmits c.self_test request bits piece next → Row c AtIdle bits piece next
  -- the same where SOF was the last bit of interframe space, from the second level on (ISO 11898-1)
  other_begun : {bits : List Bit} {piece : Piece} {next : Place} →
      sent_at c AfterSof ≡ None → Receives c.listen (Dominant ∷ []) bits piece next → Row c AfterSof bits piece next
  own_begun : {request : Request} {bits : List Bit} {piece : Piece} {next : Place} →
      sent_at c AfterSof ≡ Some request → Transmits c.self_test request (dominant_bit Dominant ∷ bits) piece next →
      Row c AfterSof bits piece next
  -- the seventh bit of EOF of a received frame (part A section 4); a dominant level there is an overload condition (ISO
  -- 11898-1)
  last_eof_bit : Row c AtLastEofBit (recessive_bit Recessive ∷ []) LastEofBit AtInterframeSpace
  last_eof_bit_overload : Row c AtLastEofBit (recessive_bit Dominant ∷ []) LastEofBit AtFlag
  -- an active error flag or overload flag: six dominant bits (part A sections 3.1.3 and 3.1.4); a recessive level among
  -- them is a bit error (section 6.1)
  flag : flag_level c ≡ Dominant → Row c AtFlag (dominant_bits (replicate 6 Dominant)) Flag AtDelimiter
  flag_fault : (i : ℕ) → flag_level c ≡ Dominant → i < 6 →
      Row c AtFlag (dominant_bits (replicate i Dominant ++ Recessive ∷ []))
      (Fault InFlag BitError (flag_segment c.flag)) AtFlag
  -- a passive error flag ends with the first six equal levels (part A section 3.1.3); so does any flag of a node that
  -- only listens (this project's own rule)
  flag_passive : {l : List Level} → flag_level c ≡ Recessive → IsFirst (EndsInEqual 6) l →
      Row c AtFlag (recessive_bits l) Flag AtDelimiter
  -- after a flag: the dominant levels of others' flags, and a delimiter of eight recessive levels (part A sections
  -- 3.1.3 and 3.1.4)
  delimiter : (k : ℕ) →
      Row c AtDelimiter (recessive_bits (replicate k Dominant ++ replicate 8 Recessive)) Delimiter AtInterframeSpace
  -- a dominant level at its eighth bit is an overload condition (ISO 11898-1)
  delimiter_overload : (k : ℕ) →
      Row c AtDelimiter (recessive_bits (replicate k Dominant ++ (replicate 7 Recessive ++ Dominant ∷ [])))
      Delimiter AtFlag
  -- a dominant level at its second to seventh bit is a form error (part A section 6.1)
  delimiter_fault : (k i : ℕ) → i < 6 →
      Row c AtDelimiter (recessive_bits (replicate k Dominant ++ (replicate (suc i) Recessive ++ Dominant ∷ [])))
      (Fault InDelimiter FormError Delimiter) AtFlag
  -- interframe space: intermission, and suspend transmission where it is owed (part A section 3.1.5)
  interframe_space :
      Row c AtInterframeSpace (recessive_bits (replicate (interframe_count c) Recessive)) InterframeSpace AtIdle
  -- a dominant third bit of intermission is SOF (ISO 11898-1)
  interframe_space_sof :
      Row c AtInterframeSpace (recessive_bits (Recessive ∷ Recessive ∷ Dominant ∷ [])) InterframeSpaceWithSof AfterSof
  -- so is a dominant level in suspend transmission (part A section 3.1.5)
  suspend_transmission_sof : (i : ℕ) → IsTrue (owes_suspension c) → i < 8 →
      Row c AtInterframeSpace (recessive_bits (replicate (3 + i) Recessive ++ Dominant ∷ []))
      InterframeSpaceWithSof AfterSof
  -- a dominant first or second bit of intermission is an overload condition (part A section 3.1.4)
  intermission_overload : Row c AtInterframeSpace (recessive_bit Dominant ∷ []) InterframeSpaceBroken AtFlag
  intermission_overload_second :
      Row c AtInterframeSpace (recessive_bit Recessive ∷ recessive_bit Dominant ∷ []) InterframeSpaceBroken AtFlag
