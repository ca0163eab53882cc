-- The lanes of nodes, drawn bit by bit.
use Rattle.std.specs.Prelude.{◌≡◌, ◌-◌, ℕ, Option, None, List, [], ◌++◌, take, string_bytes}
use Rattle.std.specs.List.{range_with_len}
use Rattle.can_levels.specs.declared.level.Level.{Level}
use Rattle.lemmas.specs.Gathering.{gathered}
use Rattle.lemmas.specs.Related.{EachRelated}
use Rattle.sja_log.specs.Log.{NodeValue}
use Rattle.text_picture.specs.Drawing.{run_past, run_after, is_full}
use Rattle.sja_replay.specs.declared.bit_event.BitEvent.{BitEvent}
use Rattle.text_trace.specs.TraceText.{driven_in}
use Rattle.text_svg.specs.declared.lane.Lane.{Lane}
use Rattle.text_svg.specs.Elements.{step_to}
use Rattle.text_svg.specs.Lanes.{box_if, box_in, level_step, signs_if, signs_in, tec_in, rec_in, tec_step, rec_step}
use Rattle.text_svg.specs.Lanes.{lane_head, lane_bits, lane_counters}
use Rattle.text_svg.specs.Places.{level_line, counter_line}

-- ---- the lane of a node

pub record IsFresh (lane : Lane) : Type 0 where
  pub run : lane.run ≡ None
  pub boxes : string_bytes lane.boxes ≡ []
  pub levels : string_bytes lane.levels ≡ []
  pub signs : string_bytes lane.signs ≡ []
  pub tecs : string_bytes lane.tecs ≡ []
  pub recs : string_bytes lane.recs ≡ []

-- a bit isn't shown
pub record Passes (bit : Option BitEvent) (old new : Lane) : Type 0 where
  pub run : new.run ≡ run_past old.run bit
  pub boxes : string_bytes new.boxes ≡ string_bytes old.boxes
  pub levels : string_bytes new.levels ≡ string_bytes old.levels
  pub signs : string_bytes new.signs ≡ string_bytes old.signs
  pub tecs : string_bytes new.tecs ≡ string_bytes old.tecs
  pub recs : string_bytes new.recs ≡ string_bytes old.recs

-- a bit is shown at x, in which the bus had this level
pub record Draws (x : ℕ) (bus : Level) (bit : Option BitEvent) (old new : Lane) : Type 0 where
  pub run : new.run ≡ run_past old.run bit
  pub boxes : string_bytes new.boxes ≡ string_bytes old.boxes ++ box_if x (is_full old.run) bit
  pub levels : string_bytes new.levels ≡ string_bytes old.levels ++ step_to x (level_line (driven_in bit))
  pub signs : string_bytes new.signs ≡ string_bytes old.signs ++ signs_if x bus bit
  pub tecs : string_bytes new.tecs ≡ string_bytes old.tecs ++ step_to x (counter_line (tec_in bit))
  pub recs : string_bytes new.recs ≡ string_bytes old.recs ++ step_to x (counter_line (rec_in bit))

-- what is written of it
abbrev pub shown_lane : ℕ → ℕ → Lane → List ℕ
shown_lane width node lane =
    lane_head node
    ++ lane_bits (string_bytes lane.boxes) (string_bytes lane.levels) (string_bytes lane.signs)
    ++ lane_counters width (string_bytes lane.tecs) (string_bytes lane.recs)

-- before this bit of a node its lane shows the bits from the first one on
pub record IsLane (bus : ℕ → Level) (first bit : ℕ) (hs : List BitEvent) (lane : Lane) : Type 0 where
  pub run : lane.run ≡ run_after (take bit hs)
  pub boxes : string_bytes lane.boxes ≡ gathered (box_in hs first) (range_with_len first (bit - first))
  pub levels : string_bytes lane.levels ≡ gathered (level_step hs first) (range_with_len first (bit - first))
  pub signs : string_bytes lane.signs ≡ gathered (signs_in bus hs first) (range_with_len first (bit - first))
  pub tecs : string_bytes lane.tecs ≡ gathered (tec_step hs first) (range_with_len first (bit - first))
  pub recs : string_bytes lane.recs ≡ gathered (rec_step hs first) (range_with_len first (bit - first))

-- ---- of all nodes

abbrev pub AreFresh : List NodeValue → List Lane → Type 0
AreFresh nodes lanes = EachRelated (λ (n : NodeValue) (l : Lane). IsFresh l) nodes lanes
