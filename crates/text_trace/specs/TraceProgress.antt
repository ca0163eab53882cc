-- A run that was told bit by bit: what each node's trace has come to.
use Rattle.std.specs.Prelude.{◌≡◌, ◌==◌, ◌+◌, ℕ, Bool, true, false, None, List, [], ◌∷◌, ◌++◌, map, slice_get}
use Rattle.can_levels.specs.declared.level.Level.{Level}
use Rattle.sja_log.specs.Log.{NodeValue}
use Rattle.sja_plan.specs.Plan.{PlanValue, steps_at}
use Rattle.text_report.specs.ReportLines.{numbered}
use Rattle.sja_steps.specs.declared.step.Step.{Step}
use Rattle.can_levels.specs.BusLevel.{wired}
use Rattle.text_trace.specs.Telling.{HaveCome, IsUnderway, HaveSame, TellsOn, TellsAll, at_hand}
use Rattle.text_trace.specs.BitEvents.{counters_after}
use Rattle.text_trace.specs.TraceText.{NodeStory, steps_due, event_line, counters_left, driven_in, lines_to}
use Rattle.text_trace.specs.declared.node_steps.NodeSteps.{NodeSteps}
use Rattle.text_trace.specs.declared.node_trace.NodeTrace.{NodeTrace}

-- ---- one node

-- the same steps, that came to the same
pub record HasSameSteps (old new : NodeSteps) : Type 0 where
  pub steps : new.steps.now ≡ old.steps.now
  pub done : new.done.now ≡ old.done.now
  pub by_bytes : new.by_bytes ≡ old.by_bytes

-- the node trace went on past a bit, and what it had in short stays as it was; or to the end
pub record NodeTraceGoesOn (old new : NodeTrace) : Type 0 where
  pub same : HasSameSteps old.steps new.steps
  pub counters : new.counters ≡ counters_after (at_hand old.bits)
  pub short : new.short ≡ old.short
  pub bits : TellsOn old.bits new.bits

pub record NodeTraceEnds (old new : NodeTrace) : Type 0 where
  pub same : HasSameSteps old.steps new.steps
  pub bits : TellsAll old.bits new.bits

-- ---- all nodes

-- each of them has come to some bit
abbrev pub AreUnderway : List NodeTrace → Type 0
AreUnderway [] = Unit {0}
AreUnderway (t ∷ node_traces) = IsUnderway t.bits × AreUnderway node_traces

-- after so many bits the node trace of a node has told this part of its story. Before the first one nothing is at hand
-- in short
pub record HasTold (by_bytes : Bool) (steps : List Step) (n : NodeValue) (bits : ℕ) (t : NodeTrace) (s : NodeStory) :
    Type 0 where
  pub by_bytes_is : t.steps.by_bytes ≡ by_bytes
  pub story_by_bytes : s.by_bytes ≡ by_bytes
  pub steps_are : t.steps.steps.now ≡ steps
  pub done_are : t.steps.done.now ≡ n.done
  pub story_steps : s.steps ≡ steps
  pub story_done : s.done ≡ n.done
  pub come : HaveCome n.journal bits t.bits s.bits
  pub fresh : bits ≡ 0 → t.short ≡ None

-- those of all nodes, the first one having this number
abbrev pub HaveTold : ℕ → PlanValue → ℕ → List NodeValue → List NodeTrace → List NodeStory → Type 0
HaveTold k plan bits [] [] [] = Unit {0}
HaveTold k plan bits [] [] (s ∷ stories) = ⊥
HaveTold k plan bits [] (t ∷ node_traces) stories = ⊥
HaveTold k plan bits (n ∷ nodes) [] stories = ⊥
HaveTold k plan bits (n ∷ nodes) (t ∷ node_traces) [] = ⊥
HaveTold k plan bits (n ∷ nodes) (t ∷ node_traces) (s ∷ stories) =
    HasTold (plan.version == 3) (steps_at plan k) n bits t s × HaveTold (k + 1) plan bits nodes node_traces stories

-- what the node trace of a node has at hand is what this bit of the story brought, and it has the counters before the
-- bit
pub record IsShown (bit : ℕ) (t : NodeTrace) (s : NodeStory) : Type 0 where
  pub steps : t.steps.steps.now ≡ s.steps
  pub done : t.steps.done.now ≡ s.done
  pub by_bytes : t.steps.by_bytes ≡ s.by_bytes
  pub counters : t.counters ≡ counters_left bit s.bits
  pub brought : at_hand t.bits ≡ slice_get s.bits bit

-- of a story the beginning is the same
pub record IsSameTo (bits : ℕ) (old new : NodeStory) : Type 0 where
  pub steps : new.steps ≡ old.steps
  pub done : new.done ≡ old.done
  pub by_bytes : new.by_bytes ≡ old.by_bytes
  pub same : HaveSame bits old.bits new.bits

-- after so many bits the text is that of the stories so far
pub record IsUpTo (plan : PlanValue) (nodes : List NodeValue) (bits : ℕ) (node_traces : List NodeTrace)
    (text : List ℕ) :
    Type 0 where
  pub stories : List NodeStory
  pub have : HaveTold 0 plan bits nodes node_traces stories
  pub text_is : text ≡ lines_to bits stories

-- ---- what is written of the bit at hand

abbrev pub node_trace_lines : Level → ℕ → ℕ → NodeTrace → List ℕ
node_trace_lines bus bit node t =
    steps_due false bit node 1 t.steps.steps.now t.steps.done.now
    ++ event_line t.steps.by_bytes bus bit node t.counters (at_hand t.bits)

abbrev pub driven_now : List NodeTrace → List Level
driven_now node_traces = map (λ (t : NodeTrace). driven_in (at_hand t.bits)) node_traces

abbrev pub bit_text : ℕ → List NodeTrace → List ℕ
bit_text bit node_traces = numbered (node_trace_lines (wired (driven_now node_traces)) bit) 0 node_traces

abbrev pub late_lines : ℕ → ℕ → NodeTrace → List ℕ
late_lines bits node t = steps_due true bits node 1 t.steps.steps.now t.steps.done.now
