-- Bits in which every node is at rest, told at once: nothing is said of them.
use Rattle.std.specs.Prelude.{◌≡◌, ◌+◌, ◌<◌, ◌≤◌, ℕ, suc, false, Some, List, [], length}
use Rattle.std.specs.Prelude.{slice_index_or}
use Rattle.can_levels.specs.declared.level.Level.TheVariants.{Recessive}
use Rattle.lemmas.specs.Related.{EachRelated}
use Rattle.sja_journal.specs.declared.entry.Entry.{Entry}
use Rattle.sja_replay.specs.declared.short_bit.ShortBit.{ShortBit}
use Rattle.sja_replay.specs.Replaying.{IsAt}
use Rattle.sja_replay.specs.ReplayRest.{RestsFor, rested}
use Rattle.sja_replay.specs.Short.{LooksAt, PassesBit}
use Rattle.text_trace.specs.declared.node_trace.NodeTrace.{NodeTrace}
use Rattle.text_trace.specs.Telling.{at_hand}
use Rattle.text_trace.specs.TraceText.{steps_due}
use Rattle.text_trace.specs.TraceProgress.{HasSameSteps}
use Rattle.text_trace.specs.Hands.{counters_of}
use Rattle.text_trace.specs.Passing.{NodeTracePasses, hands_text}

-- ---- one node

-- of a bit in which it drives and sees recessive it shows the counters that the bits before left
pub record BeginsAlike (t : NodeTrace) : Type 0 where
  pub bit : ShortBit
  pub looks : LooksAt t.bits.replay.node Recessive Recessive bit
  pub left : counters_of t.short (at_hand t.bits) ≡ bit.counters

-- it stays at rest for so many bits from this one on, no step stands right before one of them, and it begins with the
-- counters that the bits before left
pub record NodeTraceRests (first n : ℕ) (t : NodeTrace) : Type 0 where
  pub under : t.bits.over ≡ false
  pub rests : RestsFor t.bits.replay n
  pub alike : BeginsAlike t
  pub quiet : (i node : ℕ) → first ≤ i → i < first + n → steps_due false i node 1 t.steps.steps.now t.steps.done.now ≡
      []

-- the node trace went on past so many such bits, each of which brought the same in short
pub record HasRested (n : ℕ) (old new : NodeTrace) : Type 0 where
  pub short : ShortBit
  pub short_is : new.short ≡ Some short
  pub looks : LooksAt old.bits.replay.node Recessive Recessive short
  pub same : HasSameSteps old.steps new.steps
  pub counters : new.counters ≡ short.counters
  pub bits : new.bits ≡ record old.bits { replay = rested n old.bits.replay }
  pub passes : (i : ℕ) (before : List Entry) → i < n → IsAt (rested i old.bits.replay) before →
      PassesBit (rested i old.bits.replay) (rested (suc i) old.bits.replay) before short

-- ---- all nodes

abbrev pub AllRest : ℕ → ℕ → List NodeTrace → Type 0
AllRest bit n node_traces = (k : ℕ) (t : NodeTrace) → k < length node_traces →
    NodeTraceRests bit n (slice_index_or node_traces k t)

-- they went on past so many bits from this one on, one behind the other, and nothing is said of any
pub data PassesUnsaid (bit : ℕ) (was : List NodeTrace) : ℕ → List NodeTrace → Type 0 where
  none : PassesUnsaid bit was 0 was
  one_more : (n : ℕ) (mid now : List NodeTrace) → PassesUnsaid bit was n mid → EachRelated NodeTracePasses mid now →
      hands_text (bit + n) now ≡ [] → PassesUnsaid bit was (suc n) now
