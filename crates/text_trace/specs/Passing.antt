-- A run that was told bit by bit, where bits that told nothing are at hand in short. Of each such node trace there is
-- one that has the bit at hand in full and else is the same, and what `Coming` says is said of these.
use Rattle.std.specs.Prelude.{◌≡◌, ℕ, false, List, ◌++◌, map}
use Rattle.can_levels.specs.declared.level.Level.{Level}
use Rattle.lemmas.specs.Related.{EachRelated}
use Rattle.sja_log.specs.Log.{NodeValue}
use Rattle.sja_plan.specs.Plan.{PlanValue}
use Rattle.text_report.specs.ReportLines.{numbered}
use Rattle.can_levels.specs.BusLevel.{wired}
use Rattle.text_trace.specs.declared.node_trace.NodeTrace.{NodeTrace}
use Rattle.text_trace.specs.Telling.{at_hand}
use Rattle.text_trace.specs.TraceText.{steps_due}
use Rattle.text_trace.specs.TraceProgress.{HasSameSteps, IsUpTo}
use Rattle.text_trace.specs.Hands.{IsHand, HandGoesOn, counters_of, driven_of, hand_line}

-- a node trace went on past a bit
pub record NodeTracePasses (old new : NodeTrace) : Type 0 where
  pub same : HasSameSteps old.steps new.steps
  pub counters : new.counters ≡ counters_of old.short (at_hand old.bits)
  pub bits : HandGoesOn old.bits new.bits new.short

-- a node trace, and one in its place
pub record IsFor (t v : NodeTrace) : Type 0 where
  pub steps : v.steps ≡ t.steps
  pub counters : v.counters ≡ t.counters
  pub over : v.bits.over ≡ t.bits.over
  pub replay : v.bits.replay ≡ t.bits.replay
  pub hand : IsHand t.short (at_hand t.bits) (at_hand v.bits)

-- the text after so many bits, by others in the node traces' place
pub record ComesTo (plan : PlanValue) (nodes : List NodeValue) (bits : ℕ) (node_traces : List NodeTrace)
    (text : List ℕ) :
    Type 0 where
  pub whole : List NodeTrace
  pub up : IsUpTo plan nodes bits whole text
  pub stand : EachRelated IsFor node_traces whole

-- ---- what is written of the bit at hand

abbrev pub told_lines : Level → ℕ → ℕ → NodeTrace → List ℕ
told_lines bus bit node t =
    steps_due false bit node 1 t.steps.steps.now t.steps.done.now
    ++ hand_line t.steps.by_bytes bus bit node t.counters t.short (at_hand t.bits)

abbrev pub hands_driven : List NodeTrace → List Level
hands_driven node_traces = map (λ (t : NodeTrace). driven_of t.short (at_hand t.bits)) node_traces

abbrev pub hands_text : ℕ → List NodeTrace → List ℕ
hands_text bit node_traces = numbered (told_lines (wired (hands_driven node_traces)) bit) 0 node_traces
