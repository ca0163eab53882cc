-- The segments of a frame, and to which of them a level belongs (SJA1000 data sheet, 6.4.9, error code capture).
use Rattle.std.specs.Prelude.{◌≡◌, ◌-◌, ℕ, zero, suc, Bool, true, false, nat_lt}
use Rattle.std.specs.Prelude.{if◌then◌else◌, List, [], ◌∷◌, ◌++◌, length}
use Rattle.can_frame.specs.Frame.{FrameValue}
use Rattle.can_levels.specs.declared.level.Level.{Level}
use Rattle.can_levels.specs.declared.segment.Segment.{Segment}
use Rattle.can_levels.specs.declared.segment.Segment.TheVariants.{StartOfFrame, Id28To21, Id20To18, RtrStandard, Ide}
use Rattle.can_levels.specs.declared.segment.Segment.TheVariants.{Id17To13, Id12To5, Id4To0, RtrExtended, Reserved1}
use Rattle.can_levels.specs.declared.segment.Segment.TheVariants.{Reserved0, DataLengthCode, Data, CrcSequence}
use Rattle.can_levels.specs.declared.segment.Segment.TheVariants.{CrcDelimiter, AckSlot, AckDelimiter, EndOfFrame}
use Rattle.can_levels.specs.declared.segment.Segment.TheVariants.{ActiveErrorFlag, Delimiter, OverloadFlag}
use Rattle.can_levels.specs.Fields.{says_ext, says_count}
use Rattle.can_levels.specs.Stuffing.{EndsInEqual, IsUnstuffed}
use Rattle.can_levels.specs.Line.{StuffedPart}
use Rattle.can_levels.specs.Reading.{IsPastPart}

-- the numbers of the error code capture register
abbrev pub code_of : Segment → ℕ
code_of StartOfFrame = 0x03
code_of Id28To21 = 0x02
code_of Id20To18 = 0x06
code_of RtrStandard = 0x04
code_of Ide = 0x05
code_of Id17To13 = 0x07
code_of Id12To5 = 0x0f
code_of Id4To0 = 0x0e
code_of RtrExtended = 0x0c
code_of Reserved1 = 0x0d
code_of Reserved0 = 0x09
code_of DataLengthCode = 0x0b
code_of Data = 0x0a
code_of CrcSequence = 0x08
code_of CrcDelimiter = 0x18
code_of AckSlot = 0x19
code_of AckDelimiter = 0x1b
code_of EndOfFrame = 0x1a
code_of ActiveErrorFlag = 0x11
code_of Delimiter = 0x17
code_of OverloadFlag = 0x1c

-- a table of segments, each with the first place after it; places past the table belong to the CRC sequence
abbrev pub segment_in : List (ℕ × Segment) → ℕ → Segment
segment_in [] place = CrcSequence
segment_in (row ∷ rows) place = if nat_lt place (row.0) then row.1 else segment_in rows place

-- the segments of a body and its CRC sequence, by the format; the CRC sequence is the last 15 of `count` levels
abbrev pub segments_of : Bool → ℕ → List (ℕ × Segment)
segments_of false count =
    (1, StartOfFrame) ∷ (9, Id28To21) ∷ (12, Id20To18) ∷ (13, RtrStandard) ∷ (14, Ide) ∷ (15, Reserved0)
    ∷ (19, DataLengthCode) ∷ (count - 15, Data) ∷ []
segments_of true count =
    (1, StartOfFrame) ∷ (9, Id28To21) ∷ (12, Id20To18) ∷ (13, RtrStandard) ∷ (14, Ide) ∷ (19, Id17To13) ∷ (27, Id12To5)
    ∷ (32, Id4To0)
    ∷ (33, RtrExtended) ∷ (34, Reserved1) ∷ (35, Reserved0) ∷ (39, DataLengthCode) ∷ (count - 15, Data) ∷ []

-- the segment of the level at a place of a body and its CRC sequence that begins with w
abbrev pub segment_at : List Level → ℕ → Segment
segment_at w place = segment_in (segments_of (says_ext w) (says_count w)) place

-- the segment of the n-th level after the stuffed part, counted from 0
abbrev pub segment_after : ℕ → Segment
segment_after zero = CrcDelimiter
segment_after (suc zero) = AckSlot
segment_after (suc (suc zero)) = AckDelimiter
segment_after (suc (suc (suc n))) = EndOfFrame

-- the segment of the next level after levels of a line. A stuff bit belongs to the segment of the bit before it (this
-- project's own rule)
pub data IsNext (l : List Level) : Segment → Bool → Type 0 where
  bit : (w : List Level) → IsUnstuffed w l → ¬ EndsInEqual 5 l → ¬ IsPastPart l →
      IsNext l (segment_at w (length w)) false
  stuff_bit : (w : List Level) → IsUnstuffed w l → EndsInEqual 5 l → ¬ IsPastPart l →
      IsNext l (segment_at w (length w - 1)) true
  after_part : {f : FrameValue} {b c : List Level} (part after : List Level) → StuffedPart f b c part →
      l ≡ part ++ after → IsNext l (segment_after (length after)) false
