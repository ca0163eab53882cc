-- Bits in which nodes rest, drawn at once: in each of them a node drives and sees recessive, and has one letter.
use Rattle.std.specs.Prelude.{◌≡◌, ◌≤◌, ◌<◌, ◌+◌, ◌⊎◌, ℕ, Option, Some, None, List, ◌++◌, codes, slice_get}
use Rattle.std.specs.Prelude.{option_map, string_bytes}
use Rattle.std.specs.List.{repeat}
use Rattle.can_levels.specs.declared.level.Level.TheVariants.{Recessive}
use Rattle.can_node_rules.specs.declared.phase.Phase.{Phase}
use Rattle.can_node_rules.specs.declared.phase.Phase.TheVariants.{Reset, Waiting, Idle, Frame, Flag, Delimiter}
use Rattle.can_node_rules.specs.declared.phase.Phase.TheVariants.{Intermission, Suspension}
use Rattle.lemmas.specs.Related.{EachRelated}
use Rattle.text_frames.specs.declared.run.Run.{Run}
use Rattle.sja_replay.specs.declared.bit_event.BitEvent.{BitEvent}
use Rattle.sja_replay.specs.declared.short_bit.ShortBit.{ShortBit}
use Rattle.text_trace.specs.declared.node_trace.NodeTrace.{NodeTrace}
use Rattle.text_trace.specs.Hands.{IsBit}
use Rattle.text_picture.specs.declared.node_rows.NodeRows.{NodeRows}
use Rattle.text_picture.specs.Rows.{level_sign}

-- ---- one node

-- the run of equal levels past five recessive bits or more
abbrev pub rest_run : Option Run → Option Run
rest_run r = option_map (λ (run : Run). record { last = Recessive; count = 5 }) r

-- the letter of a node at rest: it is in reset, or else the bus is idle
abbrev pub phase_sign : Phase → List ℕ
phase_sign Reset = codes "."
phase_sign Waiting = codes "-"
phase_sign Idle = codes "-"
phase_sign Frame = codes "-"
phase_sign Flag = codes "-"
phase_sign Delimiter = codes "-"
phase_sign Intermission = codes "-"
phase_sign Suspension = codes "-"

abbrev pub rest_letter : Option ShortBit → List ℕ
rest_letter None = codes "."
rest_letter (Some q) = phase_sign q.phase

-- bits that aren't shown
pub record PassesRest (old new : NodeRows) : Type 0 where
  pub run : new.run ≡ rest_run old.run
  pub levels : string_bytes new.levels ≡ string_bytes old.levels
  pub letters : string_bytes new.letters ≡ string_bytes old.letters

-- so many that are shown
pub record Rests (n : ℕ) (t : NodeTrace) (old new : NodeRows) : Type 0 where
  pub run : new.run ≡ rest_run old.run
  pub levels : string_bytes new.levels ≡ string_bytes old.levels ++ repeat n (level_sign Recessive)
  pub letters : string_bytes new.letters ≡ string_bytes old.letters ++ repeat n (rest_letter t.short)

-- ---- what the bits brought

-- each of so many bits from this one on brought what the node trace has at hand in short, and the node is at rest in it
pub record IsResting (bit n : ℕ) (t : NodeTrace) (hs : List BitEvent) : Type 0 where
  pub short : ShortBit
  pub short_is : t.short ≡ Some short
  pub driven : short.driven ≡ Recessive
  pub seen : short.seen ≡ Recessive
  pub calm : (short.phase ≡ Reset) ⊎ (short.phase ≡ Idle)
  pub bits : (i : ℕ) → bit ≤ i → i < bit + n → IsBit short (slice_get hs i)

-- of all nodes
abbrev pub AreResting : ℕ → ℕ → List NodeTrace → List (List BitEvent) → Type 0
AreResting bit n node_traces told = EachRelated (IsResting bit n) node_traces told
