-- The views of private types, and parts of the texts.
use Rattle.std.specs.Prelude.{◌≡◌, ◌==◌, ◌+◌, ◌<◌, ◌≤◌, ℕ, if◌then◌else◌, Option, Some, None, List, [], ◌++◌, length}
use Rattle.std.specs.Prelude.{map}
use Rattle.std.specs.Prelude.{codes, decimal, string_bytes}
use Rattle.std.specs.List.{AllZip, range_with_len}
use Rattle.lemmas.specs.Gathering.{gathered}
use Rattle.sja_plan.specs.Limits.{most_strikes}
use Rattle.sja_plan.specs.Plan.{PlanValue, times_in}
use Rattle.sja_log.specs.Log.{NodeValue}
use Rattle.sja_log.specs.declared.run_fault.RunFault.TheVariants.{Memory as NoMemory}
use Rattle.can_node_rules.specs.declared.cause.Cause.{Cause}
use Rattle.sja_sweep.specs.declared.trial_run.TrialRun.{TrialRun}
use Rattle.sja_sweep.specs.Errors.{HasErrors, TrialRunValue}
use Rattle.sja_sweep.specs.declared.span.Span.{Span}
use Rattle.sja_sweep.specs.declared.sweep_fault.SweepFault.{SweepFault}
use Rattle.sja_sweep.specs.declared.sweep_fault.SweepFault.TheVariants.{NoNode, TooMany, StrikeCount, Run}
use Rattle.sja_sweep.specs.declared.sweep_fault.SweepFault.TheVariants.{Memory}
use Rattle.sja_sweep.specs.declared.sweeping.Sweeping.{Sweeping}
use Rattle.sja_sweep.specs.declared.trial_outcome.TrialOutcome.{TrialOutcome}
use Rattle.sja_sweep.specs.declared.target.Target.{Target}
use Rattle.sja_sweep.specs.declared.trial.Trial.{Trial}
use Rattle.sja_sweep.specs.Nodes.{node_at}
use Rattle.sja_sweep.specs.Changes.{node_items}
use Rattle.sja_sweep.specs.Steps.{script_at}
use Rattle.sja_sweep.specs.Outcome.{Outcome}
use Rattle.sja_sweep.specs.Spans.{SpanValue}
use Rattle.sja_sweep.specs.SweepText.{short_node}

-- what is kept of a run
abbrev pub outcome_value : TrialOutcome → Outcome
outcome_value t = record {
  trial = t.trial;
  error = t.error;
  words = string_bytes t.words;
  kinds = t.kinds;
}

-- a run of bits, with the bytes of its words
abbrev pub span_value : Span → SpanValue
span_value s = record {
  first = s.first;
  last = s.last;
  from = s.from;
  to = s.to;
  words = s.words.now;
  kinds = s.kinds;
}

-- a run and its errors, as lists
abbrev pub trial_run_value : TrialRun → TrialRunValue
trial_run_value r = record { log = r.log; errors = map (λ v. v.items) r.errors.items }

-- the errors of each node
abbrev pub HaveErrors : List NodeValue → List (List (Option Cause)) → Type 0
HaveErrors nodes all =
    AllZip (λ (n : NodeValue) (errors : List (Option Cause)). HasErrors n.journal errors) nodes all

-- how often a node went bus-off, by the two numbers
abbrev pub off_item_by : ℕ → ℕ → ℕ → List ℕ
off_item_by k without now =
    if without == now then [] else codes "; node " ++ (decimal k ++ (codes " bus-off " ++ decimal now))

-- what is otherwise at each node
abbrev pub nodes_items : Option PlanValue → List NodeValue → List NodeValue → List ℕ
nodes_items out without now =
    gathered (λ k. node_items (script_at out k) k (node_at without k) (node_at now k)) (range_with_len 0 (length now))

-- the activations of each node, in short
abbrev pub short_nodes : List NodeValue → List ℕ
short_nodes nodes = gathered (λ k. short_node k (node_at nodes k)) (range_with_len 0 (length nodes))

-- the node that a sweep names is one of so many, and isn't
abbrev pub NamesNodeBelow : Sweeping → ℕ → Type 0
NamesNodeBelow s nodes = (node : ℕ) → s.node ≡ Some node → node < nodes

pub record NamesNodePast (s : Sweeping) (nodes : ℕ) : Type 0 where
  pub node : ℕ
  pub named : s.node ≡ Some node
  pub past : nodes ≤ node

-- the second strike of a trial, if there is one, is of a node of so many
abbrev pub IsThereToo : ℕ → Option Target → Type 0
IsThereToo nodes None = Unit {0}
IsThereToo nodes (Some t) = t.node < nodes

-- how many strikes a trial has
abbrev pub strikes_in : Option Target → ℕ
strikes_in None = 1
strikes_in (Some t) = 2

-- the nodes of a trial are those of a plan, and there is room for its strikes
pub record IsThere (plan : PlanValue) (t : Trial) : Type 0 where
  pub first : t.first.node < length plan.nodes
  pub second : IsThereToo (length plan.nodes) t.second
  pub room : times_in plan.strikes + strikes_in t.second ≤ most_strikes plan.version

-- why a run of a plan has no outcome
abbrev pub IsTrialFault : SweepFault → Type 0
IsTrialFault Memory = Unit {0}
IsTrialFault (Run f) = f ≡ NoMemory
IsTrialFault StrikeCount = ⊥
IsTrialFault NoNode = ⊥
IsTrialFault (TooMany runs bits) = ⊥
