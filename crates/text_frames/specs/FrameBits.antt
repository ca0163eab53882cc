-- The bits of a frame that a node starts: to which field each belongs, and which of them are stuff bits.
use Rattle.std.specs.Prelude.{◌==◌, ◌+◌, ◌&&◌, ◌||◌, not, ℕ, Bool, true, false, nat_lt, if◌then◌else◌}
use Rattle.std.specs.Prelude.{Option, Some, None, List, [], ◌∷◌}
use Rattle.can_frame.specs.Frame.{FrameValue}
use Rattle.can_levels.specs.declared.level.Level.{Level}
use Rattle.can_levels.specs.Places.{are_same}
use Rattle.can_node_rules.specs.declared.phase.Phase.{Phase}
use Rattle.can_node_rules.specs.declared.phase.Phase.TheVariants.{Reset, Waiting, Idle, Frame, Flag, Delimiter}
use Rattle.can_node_rules.specs.declared.phase.Phase.TheVariants.{Intermission, Suspension}
use Rattle.can_node_rules.specs.declared.request.Request.{Request}
use Rattle.sja_replay.specs.declared.bit_event.BitEvent.{BitEvent}
use Rattle.text_trace.specs.Events.{is_frame, is_start_in}
use Rattle.text_frames.specs.declared.field.Field.{Field}
use Rattle.text_frames.specs.declared.field.Field.TheVariants.{Intermission as IntermissionField}
use Rattle.text_frames.specs.declared.frame_bit.FrameBit.{FrameBit}
use Rattle.text_frames.specs.declared.run.Run.{Run}
use Rattle.text_frames.specs.Fields.{field_if, is_stuffed}

-- ---- where a frame begins (Bosch CAN 2.0 part A section 3.1.1)

abbrev pub frame_in : Option Request → Option FrameValue
frame_in None = None
frame_in (Some request) = Some request.frame

-- the frame whose SOF the bit is, where the node is its transmitter from then on
abbrev pub started_by : BitEvent → Option FrameValue
started_by h =
    if is_start_in h.before.phase h && h.after.transmits then frame_in h.before.held else None

abbrev pub is_some : Option FrameValue → Bool
is_some None = false
is_some (Some f) = true

abbrev pub starts : BitEvent → Bool
starts h = is_some (started_by h)

-- ---- the bits after SOF: those in which the node is transmitter of the frame, and then those of intermission (part A
-- section 3.1.5), up to one with which it starts a frame again

abbrev pub is_intermission : Phase → Bool
is_intermission Intermission = true
is_intermission Reset = false
is_intermission Waiting = false
is_intermission Idle = false
is_intermission Frame = false
is_intermission Flag = false
is_intermission Delimiter = false
is_intermission Suspension = false

-- whether the bit belongs to the frame itself
abbrev pub is_within : BitEvent → Bool
is_within h = is_frame h.before.phase && h.before.transmits

-- whether it belongs to the frame or the intermission after it, where intermission began or not
abbrev pub belongs : Bool → BitEvent → Bool
belongs paused h = is_intermission h.before.phase || (not paused && is_within h)

abbrev pub part_of : Bool → List BitEvent → List BitEvent
part_of paused [] = []
part_of paused (h ∷ hs) =
    if belongs paused h
    then h ∷ (if starts h then [] else part_of (is_intermission h.before.phase) hs)
    else []

-- ---- stuff bits (part A section 5): in the part that is stuffed, after five equal levels

-- after one level, and after one level more
abbrev pub one_level : Level → Run
one_level level = record { last = level; count = 1 }

abbrev pub longer : ℕ → ℕ
longer count = if nat_lt count 5 then count + 1 else 5

abbrev pub run_on : Run → Level → Run
run_on r level =
    record { last = level; count = (if are_same level r.last then longer r.count else 1) }

-- the field of a bit after SOF
abbrev pub field_in : BitEvent → Field
field_in h = if is_intermission h.before.phase then IntermissionField else field_if h.before.segment

-- a bit after this run of equal levels
abbrev pub bit_after : Run → BitEvent → FrameBit
bit_after r h =
    record { bit = h.bit; field = field_in h; stuff = is_stuffed (field_in h) && (r.count == 5) }

abbrev pub bits_after : Run → List BitEvent → List FrameBit
bits_after r [] = []
bits_after r (h ∷ hs) = bit_after r h ∷ bits_after (run_on r h.seen) hs

-- the run after these levels too
abbrev pub run_of : Run → List Level → Run
run_of r [] = r
run_of r (x ∷ levels) = run_of (run_on r x) levels
