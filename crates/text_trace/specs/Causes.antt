-- Why an error counter changed with a bit, as a trace of version 3 tells it (this project's own rule). "Rule n" is the
-- rule of that number of Bosch CAN 2.0 part A section 7, "Fault confinement".
use Rattle.std.specs.Prelude.{◌-◌, ◌==◌, ◌&&◌, not, ℕ, Bool, true, false, nat_le, if◌then◌else◌}
use Rattle.std.specs.Prelude.{Option, Some, None, List, ◌++◌, codes, decimal}
use Rattle.can_levels.specs.declared.level.Level.{Level}
use Rattle.can_levels.specs.declared.segment.Segment.{Segment}
use Rattle.can_node_rules.specs.declared.cause.Cause.{Cause}
use Rattle.can_node_rules.specs.declared.counters.Counters.{Counters}
use Rattle.can_node_rules.specs.declared.flag_kind.FlagKind.{FlagKind}
use Rattle.can_node_rules.specs.declared.flag_kind.FlagKind.TheVariants.{ActiveError, PassiveError, Overload}
use Rattle.can_node_rules.specs.declared.outcome.Outcome.{Outcome}
use Rattle.can_node_rules.specs.declared.outcome.Outcome.TheVariants.{Sent, Failed}
use Rattle.can_node_rules.specs.declared.phase.Phase.{Phase}
use Rattle.can_node_rules.specs.declared.phase.Phase.TheVariants.{Reset, Waiting, Idle, Frame, Flag, Delimiter}
use Rattle.can_node_rules.specs.declared.phase.Phase.TheVariants.{Intermission, Suspension}
use Rattle.sja_replay.specs.declared.bit_event.BitEvent.{BitEvent}
use Rattle.text_trace.specs.BitEvents.{have_same, events_said}
use Rattle.text_trace.specs.Events.{said_if}
use Rattle.text_trace.specs.Names.{cause_name, flag_name}

-- ---- by how much

abbrev pub step_words : ℕ → ℕ → List ℕ
step_words old new = if nat_le old new then codes " +" ++ decimal (new - old) else codes " -" ++ decimal (old - new)

-- a bit that leads to bus-off adds 8 to TEC (rule 3, 4 or 6), and bus-off sets both counters (rule 10)
abbrev pub step_text : BitEvent → List ℕ
step_text h =
    if h.events.went_off then codes "tec +8"
    else if h.before.counters.tec == h.after.counters.tec then
    codes "rec" ++ step_words h.before.counters.rec h.after.counters.rec
    else codes "tec" ++ step_words h.before.counters.tec h.after.counters.tec

-- ---- an error, by where it was and the role of the node: in an active error flag or overload flag, in a delimiter, or
-- in a frame

abbrev pub flag_rule : Bool → List ℕ
flag_rule true = codes " (rule 5)"
flag_rule false = codes " (rule 4)"

abbrev pub delimiter_rule : Bool → List ℕ
delimiter_rule true = codes " in the delimiter (rule 1)"
delimiter_rule false = codes " in the delimiter (rule 3)"

abbrev pub frame_rule : Bool → List ℕ
frame_rule true = codes " in a frame of another (rule 1)"
frame_rule false = codes " in its own frame (rule 3)"

abbrev pub fault_rule : Phase → FlagKind → Bool → List ℕ
fault_rule Flag flag receiving = codes " in its " ++ (flag_name flag ++ flag_rule receiving)
fault_rule Delimiter flag receiving = delimiter_rule receiving
fault_rule Reset flag receiving = frame_rule receiving
fault_rule Waiting flag receiving = frame_rule receiving
fault_rule Idle flag receiving = frame_rule receiving
fault_rule Frame flag receiving = frame_rule receiving
fault_rule Intermission flag receiving = frame_rule receiving
fault_rule Suspension flag receiving = frame_rule receiving

-- ---- no error

-- a dominant level after a flag: the first one after an error flag is a receiver's step, and each eighth of them
-- anyone's
abbrev pub dominance_rule : Bool → FlagKind → List ℕ
dominance_rule true ActiveError = codes " (rule 2 or 6)"
dominance_rule true PassiveError = codes " (rule 2 or 6)"
dominance_rule true Overload = codes " (rule 6)"
dominance_rule false flag = codes " (rule 6)"

abbrev pub dominance_text : Bool → FlagKind → List ℕ
dominance_text receiving flag = codes "dominant after its own " ++ (flag_name flag ++ dominance_rule receiving flag)

-- by where the node was. In a flag it is a passive transmitter's whose frame nobody acknowledged (rule 3, exception 1);
-- while the bus is waited for bus-off stands; and else a frame was acknowledged
abbrev pub quiet_text : Phase → FlagKind → Bool → List ℕ
quiet_text Flag flag receiving = codes "dominant in its own passive error flag, not acknowledged before (rule 3)"
quiet_text Delimiter flag receiving = dominance_text receiving flag
quiet_text Waiting flag receiving = codes "eleven recessive bits in bus-off (rule 12)"
quiet_text Reset flag receiving = codes "a frame of another was right (rule 8)"
quiet_text Idle flag receiving = codes "a frame of another was right (rule 8)"
quiet_text Frame flag receiving = codes "a frame of another was right (rule 8)"
quiet_text Intermission flag receiving = codes "a frame of another was right (rule 8)"
quiet_text Suspension flag receiving = codes "a frame of another was right (rule 8)"

-- ---- of a bit

-- a frame was sent, or another cause
abbrev pub end_cause : Option Outcome → BitEvent → List ℕ
end_cause (Some Sent) h = codes "its own frame was sent (rule 7)"
end_cause (Some Failed) h = quiet_text h.before.phase h.before.flag h.events.receiving
end_cause None h = quiet_text h.before.phase h.before.flag h.events.receiving

abbrev pub cause_of : Option (Cause × Segment) → BitEvent → List ℕ
cause_of (Some fault) h = cause_name (fault.0) ++ fault_rule h.before.phase h.before.flag h.events.receiving
cause_of None h = end_cause h.events.ended h

abbrev pub cause_text : BitEvent → List ℕ
cause_text h = step_text h ++ (codes ", " ++ cause_of h.events.fault h)

-- that of a start, which may change the counters between two bits, and that of the bit
abbrev pub start_cause : Bool → Counters → BitEvent → List (List ℕ)
start_cause by_bytes left h = said_if (by_bytes && not (have_same left h.before.counters)) (codes "set by its start")

abbrev pub bit_cause : Bool → BitEvent → List (List ℕ)
bit_cause by_bytes h = said_if (by_bytes && not (have_same h.before.counters h.after.counters)) (cause_text h)

-- ---- all that is said of a bit: raw says whether the plan is of version 3

abbrev pub all_said : Bool → Level → Counters → BitEvent → List (List ℕ)
all_said by_bytes bus left h = events_said bus left h ++ (start_cause by_bytes left h ++ bit_cause by_bytes h)
