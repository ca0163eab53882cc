-- The letter of a bit of a node: what the bit was for that node (that these letters stand for it is this project's own
-- rule; sources as named).
use Rattle.std.specs.Prelude.{◌&&◌, not, ℕ, Bool, if◌then◌else◌, List, codes}
use Rattle.can_levels.specs.declared.level.Level.{Level}
use Rattle.can_levels.specs.Places.{are_same}
use Rattle.can_node_rules.specs.declared.flag_kind.FlagKind.{FlagKind}
use Rattle.can_node_rules.specs.declared.flag_kind.FlagKind.TheVariants.{ActiveError, PassiveError, Overload}
use Rattle.can_node_rules.specs.declared.phase.Phase.{Phase}
use Rattle.can_node_rules.specs.declared.phase.Phase.TheVariants.{Reset, Waiting, Idle, Frame, Flag, Delimiter}
use Rattle.can_node_rules.specs.declared.phase.Phase.TheVariants.{Intermission, Suspension}
use Rattle.text_frames.specs.declared.field.Field.{Field}
use Rattle.text_frames.specs.declared.field.Field.TheVariants.{Start, Identifier, FirstRemote, Format, Extension}
use Rattle.text_frames.specs.declared.field.Field.TheVariants.{SecondRemote, SecondReserved, FirstReserved, Length}
use Rattle.text_frames.specs.declared.field.Field.TheVariants.{Bytes, CrcSequence, CrcDelimiter, AckSlot, AckDelimiter}
use Rattle.text_frames.specs.declared.field.Field.TheVariants.{Eof, Intermission as IntermissionField}
use Rattle.text_frames.specs.Fields.{is_stuffed}
use Rattle.text_frames.specs.FrameBits.{field_in}
use Rattle.sja_replay.specs.declared.bit_event.BitEvent.{BitEvent}
use Rattle.text_picture.specs.EqualLevels.{is_start}

-- ---- in a frame

-- its fields (Bosch CAN 2.0 part A section 3.1.1 and part B section 3.2)
abbrev pub field_letter : Field → List ℕ
field_letter Start = codes "S"
field_letter Identifier = codes "I"
field_letter FirstRemote = codes "R"
field_letter Format = codes "X"
field_letter Extension = codes "I"
field_letter SecondRemote = codes "R"
field_letter SecondReserved = codes "1"
field_letter FirstReserved = codes "0"
field_letter Length = codes "L"
field_letter Bytes = codes "D"
field_letter CrcSequence = codes "C"
field_letter CrcDelimiter = codes "d"
field_letter AckSlot = codes "A"
field_letter AckDelimiter = codes "d"
field_letter Eof = codes "E"
field_letter IntermissionField = codes "i"

-- a stuff bit is one of a field that is stuffed, after five equal levels (part A section 5)
abbrev pub frame_letter : Bool → Field → List ℕ
frame_letter after_five field = if is_stuffed field && after_five then codes "s" else field_letter field

-- ---- in a flag (part A sections 3.1.3 and 3.1.4)

abbrev pub flag_letter : FlagKind → List ℕ
flag_letter ActiveError = codes "F"
flag_letter PassiveError = codes "P"
flag_letter Overload = codes "O"

-- ---- by what the node shows before the bit: stopped or bus-off; waiting for eleven recessive levels (part A section
-- 7, rule 12; ISO 11898-1); bus idle, intermission and suspend transmission (part A section 3.1.5); the delimiter of a
-- flag

abbrev pub phase_letter : Phase → Bool → BitEvent → List ℕ
phase_letter Reset after_five h = codes "."
phase_letter Waiting after_five h = codes "w"
phase_letter Idle after_five h = codes "-"
phase_letter Frame after_five h = frame_letter after_five (field_in h)
phase_letter Flag after_five h = flag_letter h.before.flag
phase_letter Delimiter after_five h = codes "d"
phase_letter Intermission after_five h = codes "i"
phase_letter Suspension after_five h = codes "p"

-- ---- all of it

-- the node saw the other level than the bus had
abbrev pub is_struck : Level → BitEvent → Bool
is_struck bus h = not (are_same h.seen bus)

-- a bit, in which the bus had this level, after five equal levels or not: struck, or else SOF, or else by its phase
abbrev pub letter : Level → Bool → BitEvent → List ℕ
letter bus after_five h =
    if is_struck bus h then codes "x"
    else if is_start h then codes "S"
    else phase_letter h.before.phase after_five h
