-- What each bit changes in the context: error counters, role and request. "Rule n" is the rule of that number of Bosch
-- CAN 2.0 part A section 7, "Fault confinement".
use Rattle.std.specs.Prelude.{◌+◌, ◌-◌, ◌%◌, ◌==◌, ◌&&◌, ◌||◌, not, ℕ, Bool, true, false, nat_le, min}
use Rattle.std.specs.Prelude.{fold, if◌then◌else◌, Option, Some, None, is_some, List, [], ◌∷◌, length}
use Rattle.can_levels.specs.declared.level.Level.{Level}
use Rattle.can_levels.specs.declared.level.Level.TheVariants.{Dominant, Recessive}
use Rattle.can_levels.specs.Places.{place_code}
use Rattle.can_node_rules.specs.declared.request.Request.{Request}
use Rattle.can_node_rules.specs.Bits.{Bit, seen_of}
use Rattle.can_node_rules.specs.declared.role.Role.{Role}
use Rattle.can_node_rules.specs.declared.flag_kind.FlagKind.{FlagKind}
use Rattle.can_node_rules.specs.Context.{ContextValue}
use Rattle.can_node_rules.specs.declared.role.Role.TheVariants.{Transmitter, Receiver}
use Rattle.can_node_rules.specs.declared.flag_kind.FlagKind.TheVariants.{ActiveError, PassiveError, Overload}
use Rattle.can_node_rules.specs.Pieces.{Place, sent_at}
use Rattle.can_node_rules.specs.Pieces.Place.{AtReset, AtIntegration, AtIdle, AfterSof}
use Rattle.can_node_rules.specs.Pieces.Place.{AtLastEofBit, AtFlag, AtDelimiter, AtInterframeSpace}

-- ---- steps of the counters

-- so much is added to REC, which stops at 255 (this project's own rule)
abbrev pub more_rec : ℕ → ContextValue → ContextValue
more_rec n c = record c { rec = min 255 (c.rec + n) }

-- so much is added to TEC
abbrev pub more_tec : ℕ → ContextValue → ContextValue
more_tec n c = record c { tec = c.tec + n }

-- so much by the role: a transmitter to TEC, a receiver to REC
abbrev pub more_by : Role → ℕ → ℕ → ContextValue → ContextValue
more_by Transmitter t r c = more_tec t c
more_by Receiver t r c = more_rec r c

-- rule 8: an acknowledged frame takes one from REC, and from above 127 sets it to 127 (that it does so in the ACK slot,
-- and the value 127, are this project's own rule)
abbrev pub rec_acknowledged : ℕ → ℕ
rec_acknowledged n = if nat_le 128 n then 127 else n - 1

-- no counter of a node that only listens steps (SJA1000 data sheet, 6.4.3)
abbrev pub unless_listening : ContextValue → ContextValue → ContextValue
unless_listening c new = if c.listen then c else new

-- ---- the request

-- a single shot request, or one that was aborted in progress, is dropped where it fails or loses arbitration (SJA1000
-- data sheet, 6.4.4)
abbrev pub drop_failed : Option Request → ContextValue → ContextValue
drop_failed None c = c
drop_failed (Some request) c = if request.single_shot || c.aborted then record c { held = None; aborted = false } else c

-- ---- one bit, within a piece and at its end alike. `done` are the bits of the piece before it, c the context then

-- -- bus integration

-- how many recessive levels in a row came since the last eleven that counted
abbrev pub next_run : ℕ → Level → ℕ
next_run n Dominant = 0
next_run n Recessive = if n == 10 then 0 else n + 1

-- this level makes eleven recessive ones, none of which counted before
abbrev pub ends_eleven : ℕ → Level → Bool
ends_eleven n Dominant = false
ends_eleven n Recessive = n == 10

-- a bit of bus integration: while bus-off stands each eleven recessive levels take one from TEC, unless the node only
-- listens (this project's own rule; SJA1000 data sheet, 6.4.12)
abbrev pub integration_bit : ContextValue → List Bit → Bit → ContextValue
integration_bit c done b =
    if (c.off && not c.listen) && ends_eleven (fold next_run 0 (seen_of done)) b.seen
    then record c { tec = c.tec - 1 } else c

-- -- a frame

-- the place code where a transmitter drives recessive and sees dominant in the arbitration field, at no stuff bit (part
-- A section 3.1.1; SJA1000 data sheet, 6.4.8, arbitration lost capture)
abbrev pub lost_by : Option Request → List Level → Level → Level → Option ℕ
lost_by (Some request) l Recessive Dominant = place_code request.frame.ext l
lost_by (Some request) l Recessive Recessive = None
lost_by (Some request) l Dominant Dominant = None
lost_by (Some request) l Dominant Recessive = None
lost_by None l driven seen = None

-- arbitration is lost: the node is receiver, and the request may be dropped (part A section 3.1.1)
abbrev pub lose : ContextValue → ContextValue
lose c = record (drop_failed c.held c) { role = Receiver }

-- a dominant level that a receiver of a frame drives and sees is its acknowledgement (rule 8)
abbrev pub if_acknowledged : Level → Level → ContextValue → ContextValue
if_acknowledged Dominant Dominant c = record c { rec = rec_acknowledged c.rec }
if_acknowledged Dominant Recessive c = c
if_acknowledged Recessive seen c = c

-- a bit of a frame, by the role; l are the levels of the frame before it
abbrev pub frame_bit : Role → ContextValue → List Level → Bit → ContextValue
frame_bit Transmitter c l b = if is_some (lost_by c.held l b.driven b.seen) then lose c else c
frame_bit Receiver c l b = if_acknowledged b.driven b.seen c

-- the holder of a request becomes transmitter with its SOF (part A section 3.2)
abbrev pub first_bit : Option Request → ContextValue → ContextValue
first_bit None c = c
first_bit (Some request) c = record c { role = Transmitter }

-- a bit where the bus is idle, or of a frame that began there
abbrev pub idle_bit : ContextValue → List Bit → Bit → ContextValue
idle_bit c [] b = first_bit (sent_at c AtIdle) c
idle_bit c (first ∷ done) b = frame_bit c.role c (seen_of (first ∷ done)) b

-- -- a flag

-- rule 3, exception 1: the step that an error passive transmitter owes for a missing acknowledgement comes with the
-- first dominant level in its flag
abbrev pub if_ack_step_owed : Level → ContextValue → ContextValue
if_ack_step_owed Dominant c = if c.ack_step_owed then record (more_tec 8 c) { ack_step_owed = false } else c
if_ack_step_owed Recessive c = c

-- -- after a flag

-- whether all of these levels are dominant
abbrev pub are_dominant : List Level → Bool
are_dominant [] = true
are_dominant (Dominant ∷ l) = are_dominant l
are_dominant (Recessive ∷ l) = false

-- rule 2: a receiver sees dominant right after its own error flag, active or passive
abbrev pub after_error_flag : List Bit → Role → FlagKind → ContextValue → ContextValue
after_error_flag [] Receiver ActiveError c = more_rec 8 c
after_error_flag [] Receiver PassiveError c = more_rec 8 c
after_error_flag [] Receiver Overload c = c
after_error_flag [] Transmitter flag c = c
after_error_flag (b ∷ done) role flag c = c

-- rule 6: the eighth, sixteenth and each further eighth dominant level in a row after a flag
abbrev pub if_eighth : List Bit → ContextValue → ContextValue
if_eighth done c = if are_dominant (seen_of done) && (length done + 1) % 8 == 0 then more_by c.role 8 8 c else c

-- a level after a flag, by rules 2 and 6
abbrev pub delimiter_level : Level → List Bit → ContextValue → ContextValue
delimiter_level Dominant done c = unless_listening c (if_eighth done (after_error_flag done c.role c.flag c))
delimiter_level Recessive done c = c

-- -- each place

-- the step of one bit, by its place
abbrev pub at_bit : ContextValue → Place → List Bit → Bit → ContextValue
at_bit c AtReset done b = c
at_bit c AtIntegration done b = integration_bit c done b
at_bit c AtIdle done b = idle_bit c done b
at_bit c AfterSof done b = frame_bit c.role c (Dominant ∷ seen_of done) b
at_bit c AtLastEofBit done b = c
at_bit c AtFlag done b = if_ack_step_owed b.seen c
at_bit c AtDelimiter done b = delimiter_level b.seen done c
at_bit c AtInterframeSpace done b = c
