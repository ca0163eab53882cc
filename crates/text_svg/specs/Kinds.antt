-- What a bit was for a node, as a drawing colours and names it (that these have colours, and which names they have, is
-- this project's own rule; sources as named).
use Rattle.std.specs.Prelude.{◌&&◌, ℕ, Bool, if◌then◌else◌, List, codes}
use Rattle.can_node_rules.specs.declared.flag_kind.FlagKind.{FlagKind}
use Rattle.can_node_rules.specs.declared.flag_kind.FlagKind.TheVariants.{ActiveError, PassiveError, Overload}
use Rattle.can_node_rules.specs.declared.phase.Phase.{Phase}
use Rattle.can_node_rules.specs.declared.phase.Phase.TheVariants.{Reset, Waiting, Idle, Frame, Flag, Delimiter}
use Rattle.can_node_rules.specs.declared.phase.Phase.TheVariants.{Intermission, Suspension}
use Rattle.text_frames.specs.declared.field.Field.{Field}
use Rattle.text_frames.specs.declared.field.Field.TheVariants.{Start, Identifier, FirstRemote, Format, Extension}
use Rattle.text_frames.specs.declared.field.Field.TheVariants.{SecondRemote, SecondReserved, FirstReserved, Length}
use Rattle.text_frames.specs.declared.field.Field.TheVariants.{Bytes, CrcSequence, CrcDelimiter, AckSlot, AckDelimiter}
use Rattle.text_frames.specs.declared.field.Field.TheVariants.{Eof, Intermission as IntermissionField}
use Rattle.text_frames.specs.Fields.{is_stuffed}
use Rattle.text_frames.specs.FrameBits.{field_in}
use Rattle.text_picture.specs.EqualLevels.{is_start}
use Rattle.sja_replay.specs.declared.bit_event.BitEvent.{BitEvent}
use Rattle.text_svg.specs.declared.kind.Kind.{Kind}
use Rattle.text_svg.specs.declared.kind.Kind.TheVariants.{StartBit, IdentifierBit, RemoteBit, ControlBit, DataBit}
use Rattle.text_svg.specs.declared.kind.Kind.TheVariants.{CheckBit, AckBit, EndBit, StuffBit, ActiveFlag, PassiveFlag}
use Rattle.text_svg.specs.declared.kind.Kind.TheVariants.{OverloadFlag, FlagEnd, GapBit, SuspendedBit, IdleBit}
use Rattle.text_svg.specs.declared.kind.Kind.TheVariants.{WaitingBit, ResetBit}

-- ---- in a frame

-- its fields (Bosch CAN 2.0 part A section 3.1.1 and part B section 3.2): the CRC field is the CRC sequence with its
-- delimiter, and the ACK field the ACK slot with its
abbrev pub field_kind : Field → Kind
field_kind Start = StartBit
field_kind Identifier = IdentifierBit
field_kind FirstRemote = RemoteBit
field_kind Format = ControlBit
field_kind Extension = IdentifierBit
field_kind SecondRemote = RemoteBit
field_kind SecondReserved = ControlBit
field_kind FirstReserved = ControlBit
field_kind Length = ControlBit
field_kind Bytes = DataBit
field_kind CrcSequence = CheckBit
field_kind CrcDelimiter = CheckBit
field_kind AckSlot = AckBit
field_kind AckDelimiter = AckBit
field_kind Eof = EndBit
field_kind IntermissionField = GapBit

-- a stuff bit is one of a field that is stuffed, after five equal levels (part A section 5)
abbrev pub frame_kind : Bool → Field → Kind
frame_kind after_five field = if is_stuffed field && after_five then StuffBit else field_kind field

-- ---- in a flag (part A sections 3.1.3 and 3.1.4)

abbrev pub kind_of_flag : FlagKind → Kind
kind_of_flag ActiveError = ActiveFlag
kind_of_flag PassiveError = PassiveFlag
kind_of_flag Overload = OverloadFlag

-- ---- by what the node shows before the bit: stopped or bus-off; waiting for eleven recessive levels (part A section
-- 7, rule 12; ISO 11898-1); bus idle, intermission and suspend transmission (part A section 3.1.5); the delimiter of a
-- flag

abbrev pub phase_kind : Phase → Bool → BitEvent → Kind
phase_kind Reset after_five h = ResetBit
phase_kind Waiting after_five h = WaitingBit
phase_kind Idle after_five h = IdleBit
phase_kind Frame after_five h = frame_kind after_five (field_in h)
phase_kind Flag after_five h = kind_of_flag h.before.flag
phase_kind Delimiter after_five h = FlagEnd
phase_kind Intermission after_five h = GapBit
phase_kind Suspension after_five h = SuspendedBit

-- a bit, which came after five equal levels or not: SOF, or else by its phase
abbrev pub kind_of : Bool → BitEvent → Kind
kind_of after_five h = if is_start h then StartBit else phase_kind h.before.phase after_five h

-- ---- its class, by which the style sheet gives it a colour, and its name

abbrev pub class_of : Kind → List ℕ
class_of StartBit = codes "sof"
class_of IdentifierBit = codes "id"
class_of RemoteBit = codes "rtr"
class_of ControlBit = codes "control"
class_of DataBit = codes "data"
class_of CheckBit = codes "crc"
class_of AckBit = codes "ack"
class_of EndBit = codes "eof"
class_of StuffBit = codes "stuff"
class_of ActiveFlag = codes "active"
class_of PassiveFlag = codes "passive"
class_of OverloadFlag = codes "overload"
class_of FlagEnd = codes "delimiter"
class_of GapBit = codes "gap"
class_of SuspendedBit = codes "suspend"
class_of IdleBit = codes "idle"
class_of WaitingBit = codes "waiting"
class_of ResetBit = codes "reset"

abbrev pub name_of : Kind → List ℕ
name_of StartBit = codes "SOF"
name_of IdentifierBit = codes "identifier"
name_of RemoteBit = codes "RTR or SRR"
name_of ControlBit = codes "IDE, r1, r0 or DLC"
name_of DataBit = codes "data field"
name_of CheckBit = codes "CRC field"
name_of AckBit = codes "ACK field"
name_of EndBit = codes "EOF"
name_of StuffBit = codes "stuff bit"
name_of ActiveFlag = codes "active error flag"
name_of PassiveFlag = codes "passive error flag"
name_of OverloadFlag = codes "overload flag"
name_of FlagEnd = codes "delimiter"
name_of GapBit = codes "intermission"
name_of SuspendedBit = codes "suspend transmission"
name_of IdleBit = codes "bus idle"
name_of WaitingBit = codes "waiting for the bus"
name_of ResetBit = codes "in reset"
