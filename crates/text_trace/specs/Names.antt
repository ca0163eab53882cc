-- The names of segments, errors, flags, levels and roles, and why a step is ignored (sources as named; that these words
-- stand for them is this project's own rule).
use Rattle.std.specs.Prelude.{ℕ, Bool, true, false, List, codes}
use Rattle.can_levels.specs.declared.level.Level.{Level}
use Rattle.can_levels.specs.declared.level.Level.TheVariants.{Dominant, Recessive}
use Rattle.can_levels.specs.declared.segment.Segment.{Segment}
use Rattle.can_levels.specs.declared.segment.Segment.TheVariants.{StartOfFrame, Id28To21, Id20To18, RtrStandard, Ide}
use Rattle.can_levels.specs.declared.segment.Segment.TheVariants.{Id17To13, Id12To5, Id4To0, RtrExtended, Reserved1}
use Rattle.can_levels.specs.declared.segment.Segment.TheVariants.{Reserved0, DataLengthCode, Data, CrcSequence}
use Rattle.can_levels.specs.declared.segment.Segment.TheVariants.{CrcDelimiter, AckSlot, AckDelimiter, EndOfFrame}
use Rattle.can_levels.specs.declared.segment.Segment.TheVariants.{ActiveErrorFlag, Delimiter, OverloadFlag}
use Rattle.can_node_rules.specs.declared.cause.Cause.{Cause}
use Rattle.can_node_rules.specs.declared.cause.Cause.TheVariants.{Bit, Stuff, Form, Crc, Ack}
use Rattle.can_node_rules.specs.declared.flag_kind.FlagKind.{FlagKind}
use Rattle.can_node_rules.specs.declared.flag_kind.FlagKind.TheVariants.{ActiveError, PassiveError, Overload}
use Rattle.sja_steps.specs.declared.ignored.Ignored.{Ignored}
use Rattle.sja_steps.specs.declared.ignored.Ignored.TheVariants.{ReadOnly, WriteOnly, ResetOnly, ActiveOnly}
use Rattle.sja_steps.specs.declared.ignored.Ignored.TheVariants.{ListenOnly, Locked, Empty}

-- the segments of the error code capture (SJA1000 data sheet, 6.4.9)
abbrev pub segment_name : Segment → List ℕ
segment_name StartOfFrame = codes "SOF"
segment_name Id28To21 = codes "ID.28 to ID.21"
segment_name Id20To18 = codes "ID.20 to ID.18"
segment_name RtrStandard = codes "SRTR"
segment_name Ide = codes "IDE"
segment_name Id17To13 = codes "ID.17 to ID.13"
segment_name Id12To5 = codes "ID.12 to ID.5"
segment_name Id4To0 = codes "ID.4 to ID.0"
segment_name RtrExtended = codes "RTR"
segment_name Reserved1 = codes "reserved bit 1"
segment_name Reserved0 = codes "reserved bit 0"
segment_name DataLengthCode = codes "DLC"
segment_name Data = codes "data field"
segment_name CrcSequence = codes "CRC sequence"
segment_name CrcDelimiter = codes "CRC delimiter"
segment_name AckSlot = codes "ACK slot"
segment_name AckDelimiter = codes "ACK delimiter"
segment_name EndOfFrame = codes "EOF"
segment_name ActiveErrorFlag = codes "error flag"
segment_name Delimiter = codes "delimiter"
segment_name OverloadFlag = codes "overload flag"

-- the five errors (Bosch CAN 2.0 part A section 6.1)
abbrev pub cause_name : Cause → List ℕ
cause_name Bit = codes "bit error"
cause_name Stuff = codes "stuff error"
cause_name Form = codes "form error"
cause_name Crc = codes "CRC error"
cause_name Ack = codes "ACK error"

-- the three flags (part A sections 3.1.3 and 3.1.4)
abbrev pub flag_name : FlagKind → List ℕ
flag_name ActiveError = codes "active error flag"
flag_name PassiveError = codes "passive error flag"
flag_name Overload = codes "overload flag"

-- the bus values (part A section 2)
abbrev pub level_name : Level → List ℕ
level_name Dominant = codes "dominant"
level_name Recessive = codes "recessive"

-- a receiver or not (part A section 3.2)
abbrev pub role_name : Bool → List ℕ
role_name true = codes "receiver"
role_name false = codes "transmitter"

-- why a controller ignores a step (SJA1000 data sheet, 6.4.1 to 6.4.5)
abbrev pub ignored_name : Ignored → List ℕ
ignored_name ReadOnly = codes "read only"
ignored_name WriteOnly = codes "write only"
ignored_name ResetOnly = codes "reset mode alone"
ignored_name ActiveOnly = codes "no command in reset mode"
ignored_name ListenOnly = codes "listen only mode"
ignored_name Locked = codes "TBS is 0"
ignored_name Empty = codes "no message"
