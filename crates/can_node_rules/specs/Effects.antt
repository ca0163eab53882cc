-- What a request, an abort, a start, a stop, bus-off and the end of a piece change in the context. "Rule n" is the rule
-- of that number of Bosch CAN 2.0 part A section 7, "Fault confinement".
use Rattle.std.specs.Prelude.{◌-◌, ◌==◌, ◌&&◌, ◌||◌, not, min, ℕ, Bool, true, false}
use Rattle.std.specs.Prelude.{if◌then◌else◌, Option, Some, None, List, [], ◌∷◌, ◌++◌}
use Rattle.can_node_rules.specs.declared.cause.Cause.{Cause}
use Rattle.can_node_rules.specs.declared.cause.Cause.TheVariants.{Bit as BitError, Stuff as StuffError}
use Rattle.can_node_rules.specs.declared.cause.Cause.TheVariants.{Form as FormError, Crc as CheckError, Ack as AckError}
use Rattle.can_node_rules.specs.declared.config.Config.{Config}
use Rattle.can_node_rules.specs.declared.request.Request.{Request}
use Rattle.can_node_rules.specs.Bits.{Bit}
use Rattle.can_node_rules.specs.declared.role.Role.{Role}
use Rattle.can_node_rules.specs.declared.flag_kind.FlagKind.{FlagKind}
use Rattle.can_node_rules.specs.Context.{ContextValue, is_transmitter, is_passive, is_held, owes_suspension}
use Rattle.can_node_rules.specs.declared.role.Role.TheVariants.{Transmitter, Receiver}
use Rattle.can_node_rules.specs.declared.flag_kind.FlagKind.TheVariants.{ActiveError, PassiveError, Overload}
use Rattle.can_node_rules.specs.declared.fault_site.FaultSite.{FaultSite}
use Rattle.can_node_rules.specs.Pieces.{Place, Piece}
use Rattle.can_node_rules.specs.Pieces.Place.{AtReset, AtIntegration, AtIdle, AfterSof}
use Rattle.can_node_rules.specs.Pieces.Place.{AtLastEofBit, AtFlag, AtDelimiter, AtInterframeSpace}
use Rattle.can_node_rules.specs.declared.fault_site.FaultSite.TheVariants.{InTransmission, InReception, InFlag}
use Rattle.can_node_rules.specs.declared.fault_site.FaultSite.TheVariants.{InDelimiter}
use Rattle.can_node_rules.specs.Pieces.Piece.{Integration, IdleBit, Reception, Transmission, Fault, LastEofBit, Flag}
use Rattle.can_node_rules.specs.Pieces.Piece.{Delimiter, InterframeSpace, InterframeSpaceWithSof, InterframeSpaceBroken}
use Rattle.can_node_rules.specs.Record.{RecordEntry}
use Rattle.can_node_rules.specs.Record.RecordEntry.{Start, Stop, OneBit, Send, Abort, BusOff}
use Rattle.can_node_rules.specs.Counting.{more_rec, more_tec, more_by, unless_listening, drop_failed, at_bit}

-- ---- entries that are no bits

-- a request that comes while one is held changes nothing (this project's own rule)
abbrev pub keep_first : Option Request → Request → Option Request
keep_first None request = Some request
keep_first (Some held) request = Some held

-- a request
abbrev pub with_send : Request → ContextValue → ContextValue
with_send request c = record c { held = keep_first c.held request }

-- a request is in progress: its frame is going out, and SOF has come (this project's own rule)
abbrev pub is_in_progress : ContextValue → Place → Bool
is_in_progress c AtIdle = is_transmitter c.role
is_in_progress c AfterSof = is_transmitter c.role
is_in_progress c AtReset = false
is_in_progress c AtIntegration = false
is_in_progress c AtLastEofBit = false
is_in_progress c AtFlag = false
is_in_progress c AtDelimiter = false
is_in_progress c AtInterframeSpace = false

-- an abort marks a request in progress, and drops any other (SJA1000 data sheet, 6.4.4, abort transmission)
abbrev pub with_abort : Place → ContextValue → ContextValue
with_abort place c = if is_in_progress c place then record c { aborted = true } else record c { held = None }

-- while bus-off stands its count of 128 begins anew, unless the node only listens (this project's own rule)
abbrev pub recounted : ContextValue → ContextValue
recounted c = if c.off && not c.listen then record c { tec = 127; rec = 0 } else c

-- a start takes the transmit error counter that was written in reset mode, if one was: 255 is a bus-off, and any other
-- value ends one (SJA1000 data sheet, 6.4.12)
abbrev pub with_tec : Option ℕ → ContextValue → ContextValue
with_tec None c = c
with_tec (Some n) c =
    if n == 255 then record c { tec = 127; rec = 0; off = true } else record c { tec = min n 254; off = false }

-- and then the receive error counter, unless bus-off stands (SJA1000 data sheet, 6.4.11)
abbrev pub with_rec : Option ℕ → ContextValue → ContextValue
with_rec None c = c
with_rec (Some n) c = if c.off then c else record c { rec = min n 255 }

-- a start takes the configuration (SJA1000 data sheet, 6.4.3); where bus-off stands its counters begin anew
abbrev pub with_start : Config → ContextValue → ContextValue
with_start config c = recounted (with_rec config.rec (with_tec config.tec
    (record c { listen = config.listen; self_test = config.self_test })))

-- a stop drops the request, and keeps counters and role (this project's own rule)
abbrev pub with_stop : ContextValue → ContextValue
with_stop c = record c { held = None; aborted = false; ack_step_owed = false }

-- bus-off (rule 10) drops the request, and sets TEC to 127 and REC to 0 (SJA1000 data sheet, 6.4.11 and 6.4.12)
abbrev pub with_off : ContextValue → ContextValue
with_off c = record (with_stop c) { tec = 127; rec = 0; off = true }

-- the context after these entries of one piece; `done` are the bits of the piece before them
abbrev pub along : ContextValue → Place → List Bit → List RecordEntry → ContextValue
along c place done [] = c
along c place done (OneBit b ∷ entries) = along (at_bit c place done b) place (done ++ b ∷ []) entries
along c place done (Send request ∷ entries) = along (with_send request c) place done entries
along c place done (Abort ∷ entries) = along (with_abort place c) place done entries
along c place done (Start config ∷ entries) = along c place done entries
along c place done (Stop ∷ entries) = along c place done entries
along c place done (BusOff ∷ entries) = along c place done entries

-- ---- the end of a piece

-- rule 3: a transmitter's error adds 8 to TEC. Exception 2: a stuff error in the arbitration field before RTR adds
-- nothing. Exception 1: for a frame that isn't acknowledged an error passive transmitter owes the step
abbrev pub transmitter_fault : Cause → ContextValue → ContextValue
transmitter_fault BitError c = more_tec 8 c
transmitter_fault StuffError c = c
transmitter_fault FormError c = more_tec 8 c
transmitter_fault CheckError c = more_tec 8 c
transmitter_fault AckError c = if is_passive c then record c { ack_step_owed = true } else more_tec 8 c

-- the step of a fault, by where it was. In a frame: rule 3 for its transmitter, rule 1 for a receiver. In an active
-- error flag or overload flag: rules 4 and 5. In a delimiter: rules 3 and 1
abbrev pub fault_step : FaultSite → Cause → ContextValue → ContextValue
fault_step InTransmission cause c = drop_failed c.held (transmitter_fault cause c)
fault_step InReception cause c = unless_listening c (more_rec 1 c)
fault_step InFlag cause c = more_by c.role 8 8 c
fault_step InDelimiter cause c = unless_listening c (more_by c.role 8 1 c)

-- the step of a piece's end, beside those of its bits. The end of bus integration ends bus-off, unless the node only
-- listens (rule 12); a frame that was sent takes one from TEC (rule 7), and its request is done
abbrev pub own_step : Piece → ContextValue → ContextValue
own_step Integration c = if c.off && not c.listen then record c { tec = 0; rec = 0; off = false } else c
own_step (Transmission request) c = record c { tec = c.tec - 1; held = None; aborted = false }
own_step (Fault site cause segment) c = fault_step site cause c
own_step Flag c = record c { ack_step_owed = false }
own_step IdleBit c = c
own_step (Reception f) c = c
own_step LastEofBit c = c
own_step Delimiter c = c
own_step InterframeSpace c = c
own_step InterframeSpaceWithSof c = c
own_step InterframeSpaceBroken c = c

-- an error flag is active where both counters were below 128 right before the fault's own step (rule 9)
abbrev pub error_flag : ContextValue → FlagKind
error_flag c = if is_passive c then PassiveError else ActiveError

-- the flag that follows a piece: after a fault an error flag, with which an error frame begins (part A sections 3.1.3
-- and 6.2), else an overload flag, with which an overload frame begins (section 3.1.4)
abbrev pub flag_after : Piece → ContextValue → FlagKind
flag_after (Fault site cause segment) c = error_flag c
flag_after Integration c = Overload
flag_after IdleBit c = Overload
flag_after (Reception f) c = Overload
flag_after (Transmission request) c = Overload
flag_after LastEofBit c = Overload
flag_after Flag c = Overload
flag_after Delimiter c = Overload
flag_after InterframeSpace c = Overload
flag_after InterframeSpaceWithSof c = Overload
flag_after InterframeSpaceBroken c = Overload

-- where SOF comes in interframe space the holder of a request is transmitter, unless it owes suspend transmission or
-- only listens (ISO 11898-1; part A section 3.1.5)
abbrev pub role_after_sof : ContextValue → Role
role_after_sof c = if is_held c.held && not (c.listen || owes_suspension c) then Transmitter else Receiver

-- what the next place sets: the flag that is due, or the role, which is receiver on an idle bus (part A section 3.2)
abbrev pub entering : Place → Piece → ContextValue → ContextValue → ContextValue
entering AtFlag piece before c = record c { flag = flag_after piece before }
entering AtIdle piece before c = record c { role = Receiver }
entering AfterSof piece before c = record c { role = role_after_sof c }
entering AtReset piece before c = c
entering AtIntegration piece before c = c
entering AtLastEofBit piece before c = c
entering AtDelimiter piece before c = c
entering AtInterframeSpace piece before c = c

-- the context after a piece, from the one after the steps of its bits
abbrev pub closed : Piece → Place → ContextValue → ContextValue
closed piece next c = entering next piece c (own_step piece c)

-- the context after the entries of a piece
abbrev pub after : ContextValue → Place → List RecordEntry → Piece → Place → ContextValue
after c place slice piece next = closed piece next (along c place [] slice)
