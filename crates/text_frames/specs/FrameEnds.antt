-- How a frame ended for its transmitter (this project's own rule; sources as named).
use Rattle.std.specs.Prelude.{ℕ, Bool, true, false, if◌then◌else◌, Option, Some, None, List, [], ◌∷◌}
use Rattle.can_levels.specs.declared.segment.Segment.{Segment}
use Rattle.can_node_rules.specs.declared.cause.Cause.{Cause}
use Rattle.sja_replay.specs.declared.bit_event.BitEvent.{BitEvent}
use Rattle.text_trace.specs.Events.{is_frame}
use Rattle.text_frames.specs.declared.ending.Ending.{Ending}
use Rattle.text_frames.specs.declared.ending.Ending.TheVariants.{Whole, Lost, Broken, CutOff}
use Rattle.text_frames.specs.declared.last_bit.LastBit.{LastBit}

-- by what its last bit brought: arbitration was lost (SJA1000 data sheet, 6.4.8), or there was a fault (Bosch CAN 2.0
-- part A section 6). Without either the frame is whole, unless more bits of it were to come: then the controller was
-- stopped, or the run was over
abbrev pub ending_of : Option ℕ → Option (Cause × Segment) → Bool → Ending
ending_of (Some code) fault going = Lost code
ending_of None (Some fault) going = Broken (fault.0) (fault.1)
ending_of None None true = CutOff
ending_of None None false = Whole

abbrev pub ends_in : BitEvent → LastBit
ends_in h =
    record { bit = h.bit; ending = ending_of h.events.lost h.events.fault (is_frame h.after.phase) }

-- the last bit of the frame itself, where these bits come after it; those of intermission belong to the frame no more
abbrev pub last_of : LastBit → List BitEvent → LastBit
last_of l [] = l
last_of l (h ∷ hs) = last_of (if is_frame h.before.phase then ends_in h else l) hs
