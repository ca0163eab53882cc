-- The place of each bit of a frame that a node starts, by the frame's bits as the cut of the node's record tells them
-- (SJA1000 data sheet, 6.4.8 and 6.4.9; Bosch CAN 2.0 part A section 3.1.1 and part B section 3.2).
use Rattle.std.specs.Prelude.{◌==◌, ◌+◌, ◌-◌, ◌/◌, ◌%◌, ◌&&◌, not, ℕ, Bool, true, false, if◌then◌else◌}
use Rattle.std.specs.Prelude.{Option, Some, None, List, [], ◌∷◌, ◌++◌}
use Rattle.std.specs.List.{count_by}
use Rattle.sja_plan.specs.declared.place.Place.{Place}
use Rattle.sja_plan.specs.declared.place.Place.TheVariants.{Sof, Id, Srr, Rtr, Ide, R1, R0, Dlc, Data, Crc}
use Rattle.sja_plan.specs.declared.place.Place.TheVariants.{CrcDelimiter, Ack, AckDelimiter, Eof, Intermission, Stuff}
use Rattle.text_frames.specs.declared.field.Field.{Field}
use Rattle.text_frames.specs.declared.field.Field.TheVariants.{Start, Identifier, FirstRemote, Format, Extension}
use Rattle.text_frames.specs.declared.field.Field.TheVariants.{SecondRemote, SecondReserved, FirstReserved, Length}
use Rattle.text_frames.specs.declared.field.Field.TheVariants.{Bytes, CrcSequence, CrcDelimiter as CrcDelimiterField}
use Rattle.text_frames.specs.declared.field.Field.TheVariants.{AckSlot, AckDelimiter as AckDelimiterField}
use Rattle.text_frames.specs.declared.field.Field.TheVariants.{Eof as EofField, Intermission as IntermissionField}
use Rattle.text_frames.specs.declared.frame_bit.FrameBit.{FrameBit}
use Rattle.text_frames.specs.FieldTexts.{is_of, is_stuff}
use Rattle.text_frames.specs.FrameStories.{FrameStory}

-- the place of a bit of this field, behind so many bits of the field. The highest bit of a number comes first; the
-- identifier of a standard frame is ID.28 to ID.18, the extension of an extended one ID.17 to ID.0
abbrev pub place_in : Bool → Field → ℕ → Place
place_in ext Start index = Sof
place_in ext Identifier index = Id (28 - index)
place_in true FirstRemote index = Srr
place_in false FirstRemote index = Rtr
place_in ext Format index = Ide
place_in ext Extension index = Id (17 - index)
place_in ext SecondRemote index = Rtr
place_in ext SecondReserved index = R1
place_in ext FirstReserved index = R0
place_in ext Length index = Dlc (3 - index)
place_in ext Bytes index = Data (index / 8 + 1) (7 - index % 8)
place_in ext CrcSequence index = Crc (14 - index)
place_in ext CrcDelimiterField index = CrcDelimiter
place_in ext AckSlot index = Ack
place_in ext AckDelimiterField index = AckDelimiter
place_in ext EofField index = Eof (index + 1)
place_in ext IntermissionField index = Intermission (index + 1)

-- a bit is of this field, and no stuff bit
abbrev pub is_plain_in : Field → FrameBit → Bool
is_plain_in field b = not b.stuff && is_of field b

-- the place of a bit, behind these bits of its frame: a stuff bit is the next one of them, and another bit the next one
-- of its field
abbrev pub place_of : Bool → List FrameBit → FrameBit → Place
place_of ext before b =
    if b.stuff then Stuff (count_by is_stuff before + 1)
    else place_in ext b.field (count_by (is_plain_in b.field) before)

-- ---- which bit is at a place

-- the number of a place's name, and its own numbers
abbrev pub numbers_of : Place → ℕ × ℕ × ℕ
numbers_of Sof = (0, 0, 0)
numbers_of (Id bit) = (1, bit, 0)
numbers_of Srr = (2, 0, 0)
numbers_of Rtr = (3, 0, 0)
numbers_of Ide = (4, 0, 0)
numbers_of R1 = (5, 0, 0)
numbers_of R0 = (6, 0, 0)
numbers_of (Dlc bit) = (7, bit, 0)
numbers_of (Data byte bit) = (8, byte, bit)
numbers_of (Crc bit) = (9, bit, 0)
numbers_of CrcDelimiter = (10, 0, 0)
numbers_of Ack = (11, 0, 0)
numbers_of AckDelimiter = (12, 0, 0)
numbers_of (Eof bit) = (13, bit, 0)
numbers_of (Intermission bit) = (14, bit, 0)
numbers_of (Stuff number) = (15, number, 0)

-- two places are one
abbrev pub are_one : Place → Place → Bool
are_one p q =
    (numbers_of p).0 == (numbers_of q).0 && (numbers_of p).1 == (numbers_of q).1 && (numbers_of p).2 == (numbers_of q).2

-- of these bits of a frame, behind others, the first one that is at a place
abbrev pub first_at : Bool → Place → List FrameBit → List FrameBit → Option ℕ
first_at ext place before [] = None
first_at ext place before (b ∷ bits) =
    if are_one (place_of ext before b) place then Some b.bit else first_at ext place (before ++ b ∷ []) bits

-- the bit of a frame that is at a place: SOF, or the first one behind it
abbrev pub bit_of : FrameStory → Place → Option ℕ
bit_of s place = if are_one Sof place then Some s.sof else first_at s.frame.ext place [] s.bits
