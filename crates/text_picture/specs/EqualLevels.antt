-- How many equal levels stand before a bit of a frame, by what the bits of its node brought (Bosch CAN 2.0 part A
-- section 5). It counts what the node saw, so that it is the same for the transmitter and the receivers of a frame.
use Rattle.std.specs.Prelude.{◌==◌, ℕ, Bool, if◌then◌else◌, List, [], ◌∷◌, map}
use Rattle.std.specs.List.{list_any}
use Rattle.text_frames.specs.FrameBits.{one_level, run_of}
use Rattle.sja_replay.specs.declared.bit_event.BitEvent.{BitEvent}
use Rattle.text_trace.specs.Events.{is_start_in}

-- SOF, of the node's own frame or of another's
abbrev pub is_start : BitEvent → Bool
is_start h = is_start_in h.before.phase h

-- of these bits those from the last SOF on, with that SOF; none where there is no SOF among them
abbrev pub from_start : List BitEvent → List BitEvent
from_start [] = []
from_start (h ∷ hs) =
    if list_any is_start hs then from_start hs
    else if is_start h then h ∷ hs
    else []

-- how many equal levels were seen last, where these are the bits from SOF on; five where there are more
abbrev pub equal_levels : List BitEvent → ℕ
equal_levels [] = 0
equal_levels (sof ∷ hs) = (run_of (one_level sof.seen) (map (λ (h : BitEvent). h.seen) hs)).count

-- whether five equal levels came last, counted from SOF, where these are all bits so far
abbrev pub is_after_five : List BitEvent → Bool
is_after_five before = equal_levels (from_start before) == 5
