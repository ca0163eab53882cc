-- All that is said of one bit of a node (this project's own rule).
use Rattle.std.specs.Prelude.{◌==◌, ◌&&◌, ◌||◌, not, ℕ, Bool, true, false, nat_le, if◌then◌else◌}
use Rattle.std.specs.Prelude.{Option, Some, None, List, [], ◌∷◌, ◌++◌, codes, decimal}
use Rattle.can_levels.specs.declared.level.Level.{Level}
use Rattle.can_node_rules.specs.declared.counters.Counters.{Counters}
use Rattle.can_node_rules.specs.declared.phase.Phase.{Phase}
use Rattle.can_node_rules.specs.declared.phase.Phase.TheVariants.{Reset, Waiting, Idle, Frame, Flag, Delimiter}
use Rattle.can_node_rules.specs.declared.phase.Phase.TheVariants.{Intermission, Suspension}
use Rattle.can_node_rules.specs.declared.state.State.{State}
use Rattle.can_node_rules.specs.declared.state.State.TheVariants.{Active, Passive, BusOff}
use Rattle.can_node_rules.specs.Outcomes.{state_of}
use Rattle.sja_replay.specs.declared.bit_event.BitEvent.{BitEvent}
use Rattle.text_trace.specs.Events.{said_if, abort_said, start_said, strike_said, acknowledgement_said, loss_said}
use Rattle.text_trace.specs.Events.{fault_said, flag_said, reception_said, end_said}

-- ---- suspend transmission begins after the third bit of intermission (Bosch CAN 2.0 part A section 3.1.5)

abbrev pub begins_suspension : Phase → Phase → Bool
begins_suspension Intermission Suspension = true
begins_suspension Intermission Reset = false
begins_suspension Intermission Waiting = false
begins_suspension Intermission Idle = false
begins_suspension Intermission Frame = false
begins_suspension Intermission Flag = false
begins_suspension Intermission Delimiter = false
begins_suspension Intermission Intermission = false
begins_suspension Reset after = false
begins_suspension Waiting after = false
begins_suspension Idle after = false
begins_suspension Frame after = false
begins_suspension Flag after = false
begins_suspension Delimiter after = false
begins_suspension Suspension after = false

abbrev pub suspension_said : BitEvent → List (List ℕ)
suspension_said h = said_if (begins_suspension h.before.phase h.after.phase) (codes "suspend transmission")

-- ---- states (part A section 7, rules 9 to 12), and the error warning limit, which is 96 after power-on (SJA1000 data
-- sheet, 6.4.10)

abbrev pub warns : Counters → Bool
warns k = nat_le 96 k.tec || nat_le 96 k.rec

abbrev pub change_text : State → State → List (List ℕ)
change_text Active Passive = codes "error passive" ∷ []
change_text Passive Active = codes "error active" ∷ []
change_text Active Active = []
change_text Active BusOff = []
change_text Passive Passive = []
change_text Passive BusOff = []
change_text BusOff after = []

abbrev pub comes_to_warn : Counters → Counters → Bool
comes_to_warn old new = not (warns old) && warns new

abbrev pub confinement_said : Counters → Counters → List (List ℕ)
confinement_said old new =
    said_if (comes_to_warn old new) (codes "error warning") ++ change_text (state_of old) (state_of new)

abbrev pub states_said : BitEvent → List (List ℕ)
states_said h =
    if h.events.went_off then codes "BUS-OFF" ∷ []
    else if h.events.recovered then codes "back from bus-off" ∷ []
    else confinement_said h.before.counters h.after.counters

-- ---- the error counters after the bit, where one of them changed

abbrev pub have_same : Counters → Counters → Bool
have_same old new = (old.tec == new.tec) && (old.rec == new.rec)

abbrev pub counters_text : Counters → List ℕ
counters_text k = codes "tec " ++ (decimal k.tec ++ (codes " rec " ++ decimal k.rec))

abbrev pub counters_said : BitEvent → List (List ℕ)
counters_said h =
    said_if (not (have_same h.before.counters h.after.counters)) (counters_text h.after.counters)

-- ---- a start may change them between two bits: while bus-off stands it makes TEC 127 and REC 0, unless the node only
-- listens then, and in version 3 of the registers it takes what was written to TXERR and RXERR (SJA1000 data sheet,
-- 6.4.11 and 6.4.12). left are the counters as the bits before this one left them, both 0 before the first bit (6.4.2)

abbrev pub counters_after : Option BitEvent → Counters
counters_after None = record { tec = 0; rec = 0; off = false }
counters_after (Some h) = h.after.counters

abbrev pub restart_said : Counters → BitEvent → List (List ℕ)
restart_said left h = said_if (not (have_same left h.before.counters)) (counters_text h.before.counters)

-- ---- all of it, in this order

abbrev pub bit_said : Level → BitEvent → List (List ℕ)
bit_said bus h =
    abort_said h ++ start_said h ++ strike_said bus h ++ acknowledgement_said h ++ loss_said h ++ fault_said h
    ++ flag_said h ++ reception_said h ++ end_said h ++ suspension_said h ++ states_said h ++ counters_said h

-- and before it what a start did
abbrev pub events_said : Level → Counters → BitEvent → List (List ℕ)
events_said bus left h = restart_said left h ++ bit_said bus h
