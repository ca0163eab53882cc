-- The fields of a frame (Bosch CAN 2.0 part A section 3.1.1 and part B section 3.2; that a list of frames tells these
-- apart is this project's own rule).
use Rattle.std.specs.Prelude.{◌==◌, ℕ, Bool, true, false, Option, Some, None, List, [], ◌∷◌}
use Rattle.can_levels.specs.declared.segment.Segment.{Segment}
use Rattle.can_levels.specs.declared.segment.Segment.TheVariants.{StartOfFrame, Id28To21, Id20To18, RtrStandard, Ide}
use Rattle.can_levels.specs.declared.segment.Segment.TheVariants.{Id17To13, Id12To5, Id4To0, RtrExtended, Reserved1}
use Rattle.can_levels.specs.declared.segment.Segment.TheVariants.{Reserved0, DataLengthCode, Data, CrcSequence}
use Rattle.can_levels.specs.declared.segment.Segment.TheVariants.{CrcDelimiter, AckSlot, AckDelimiter, EndOfFrame}
use Rattle.can_levels.specs.declared.segment.Segment.TheVariants.{ActiveErrorFlag, Delimiter, OverloadFlag}
use Rattle.text_frames.specs.declared.field.Field.{Field}
use Rattle.text_frames.specs.declared.field.Field.TheVariants.{Start, Identifier, FirstRemote, Format, Extension}
use Rattle.text_frames.specs.declared.field.Field.TheVariants.{SecondRemote, SecondReserved, FirstReserved, Length}
use Rattle.text_frames.specs.declared.field.Field.TheVariants.{Bytes, CrcSequence as CrcSequenceField}
use Rattle.text_frames.specs.declared.field.Field.TheVariants.{CrcDelimiter as CrcDelimiterField}
use Rattle.text_frames.specs.declared.field.Field.TheVariants.{AckSlot as AckSlotField}
use Rattle.text_frames.specs.declared.field.Field.TheVariants.{AckDelimiter as AckDelimiterField, Eof, Intermission}

-- the field that a segment of the error code capture belongs to (SJA1000 data sheet, 6.4.9); a flag and a delimiter
-- belong to no frame
abbrev pub field_of : Segment → Field
field_of StartOfFrame = Start
field_of Id28To21 = Identifier
field_of Id20To18 = Identifier
field_of RtrStandard = FirstRemote
field_of Ide = Format
field_of Id17To13 = Extension
field_of Id12To5 = Extension
field_of Id4To0 = Extension
field_of RtrExtended = SecondRemote
field_of Reserved1 = SecondReserved
field_of Reserved0 = FirstReserved
field_of DataLengthCode = Length
field_of Data = Bytes
field_of CrcSequence = CrcSequenceField
field_of CrcDelimiter = CrcDelimiterField
field_of AckSlot = AckSlotField
field_of AckDelimiter = AckDelimiterField
field_of EndOfFrame = Eof
field_of ActiveErrorFlag = Intermission
field_of Delimiter = Intermission
field_of OverloadFlag = Intermission

-- the same of a bit that belongs to no segment
abbrev pub field_if : Option Segment → Field
field_if None = Intermission
field_if (Some segment) = field_of segment

-- the fields after SOF, in the order in which they come
abbrev pub fields : List Field
fields =
    Identifier ∷ FirstRemote ∷ Format ∷ Extension ∷ SecondRemote ∷ SecondReserved ∷ FirstReserved ∷ Length ∷ Bytes
    ∷ CrcSequenceField ∷ CrcDelimiterField ∷ AckSlotField ∷ AckDelimiterField ∷ Eof ∷ Intermission ∷ []

-- their places in that order
abbrev pub place_of : Field → ℕ
place_of Start = 0
place_of Identifier = 1
place_of FirstRemote = 2
place_of Format = 3
place_of Extension = 4
place_of SecondRemote = 5
place_of SecondReserved = 6
place_of FirstReserved = 7
place_of Length = 8
place_of Bytes = 9
place_of CrcSequenceField = 10
place_of CrcDelimiterField = 11
place_of AckSlotField = 12
place_of AckDelimiterField = 13
place_of Eof = 14
place_of Intermission = 15

abbrev pub are_one : Field → Field → Bool
are_one a b = place_of a == place_of b

-- the part of a frame from SOF to the CRC sequence is coded by bit stuffing (Bosch CAN 2.0 part A section 5)
abbrev pub is_stuffed : Field → Bool
is_stuffed Start = true
is_stuffed Identifier = true
is_stuffed FirstRemote = true
is_stuffed Format = true
is_stuffed Extension = true
is_stuffed SecondRemote = true
is_stuffed SecondReserved = true
is_stuffed FirstReserved = true
is_stuffed Length = true
is_stuffed Bytes = true
is_stuffed CrcSequenceField = true
is_stuffed CrcDelimiterField = false
is_stuffed AckSlotField = false
is_stuffed AckDelimiterField = false
is_stuffed Eof = false
is_stuffed Intermission = false
