-- The names of fields, by the frame's format: a standard frame has an identifier and RTR, an extended one a base
-- identifier, SRR, an identifier extension and RTR (Bosch CAN 2.0 part B section 3.2; ISO 11898-1).
use Rattle.std.specs.Prelude.{ℕ, Bool, true, false, List, codes}
use Rattle.text_frames.specs.declared.field.Field.{Field}
use Rattle.text_frames.specs.declared.field.Field.TheVariants.{Start, Identifier, FirstRemote, Format, Extension}
use Rattle.text_frames.specs.declared.field.Field.TheVariants.{SecondRemote, SecondReserved, FirstReserved, Length}
use Rattle.text_frames.specs.declared.field.Field.TheVariants.{Bytes, CrcSequence, CrcDelimiter, AckSlot, AckDelimiter}
use Rattle.text_frames.specs.declared.field.Field.TheVariants.{Eof, Intermission}

abbrev pub identifier_name : Bool → List ℕ
identifier_name false = codes "ID"
identifier_name true = codes "base ID"

abbrev pub remote_name : Bool → List ℕ
remote_name false = codes "RTR"
remote_name true = codes "SRR"

abbrev pub field_name : Bool → Field → List ℕ
field_name ext Start = codes "SOF"
field_name ext Identifier = identifier_name ext
field_name ext FirstRemote = remote_name ext
field_name ext Format = codes "IDE"
field_name ext Extension = codes "ID extension"
field_name ext SecondRemote = codes "RTR"
field_name ext SecondReserved = codes "r1"
field_name ext FirstReserved = codes "r0"
field_name ext Length = codes "DLC"
field_name ext Bytes = codes "data"
field_name ext CrcSequence = codes "CRC sequence"
field_name ext CrcDelimiter = codes "CRC delimiter"
field_name ext AckSlot = codes "ACK slot"
field_name ext AckDelimiter = codes "ACK delimiter"
field_name ext Eof = codes "EOF"
field_name ext Intermission = codes "intermission"
