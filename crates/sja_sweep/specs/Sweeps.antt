-- What is promised of a sweep (this project's own rule).
use Rattle.std.specs.Prelude.{◌≡◌, ◌+◌, ◌*◌, ◌<◌, ◌≤◌, ◌⊎◌, ℕ, false, Some, List, length}
use Rattle.std.specs.List.{AllZip}
use Rattle.sja_plan.specs.Limits.{most_strikes}
use Rattle.sja_plan.specs.Plan.{PlanValue, times_in}
use Rattle.sja_log.specs.Log.{RunValue}
use Rattle.sja_promises.specs.Runs.{IsSerialRun}
use Rattle.sja_log.specs.declared.run_fault.RunFault.TheVariants.{Memory as NoMemory}
use Rattle.sja_sweep.specs.declared.sweeping.Sweeping.{Sweeping}
use Rattle.sja_sweep.specs.declared.trial.Trial.{Trial}
use Rattle.sja_sweep.specs.declared.sweep_fault.SweepFault.{SweepFault}
use Rattle.sja_sweep.specs.declared.sweep_fault.SweepFault.TheVariants.{NoNode, TooMany, StrikeCount, Run}
use Rattle.sja_sweep.specs.declared.sweep_fault.SweepFault.TheVariants.{Memory}
use Rattle.sja_sweep.specs.Targets.{trials_of, strikes_a_run, struck_by}
use Rattle.sja_sweep.specs.Errors.{TrialRunValue, IsRan}
use Rattle.sja_sweep.specs.Outcome.{outcomes_of}
use Rattle.sja_sweep.specs.SweepText.{sweep_text, sweep_rows}

-- what a sweep tries of a plan whose run as planned is this one
abbrev pub strikes_tried : PlanValue → Sweeping → RunValue → List Trial
strikes_tried plan s planned = trials_of s (length plan.nodes) planned.bits

-- the node that the sweep names, if it names one, is one of the plan's
abbrev pub NamesItsNode : PlanValue → Sweeping → Type 0
NamesItsNode plan s = (node : ℕ) → s.node ≡ Some node → node < length plan.nodes

-- so many runs of this plan are at most 20,000, and come to at most 2,000,000,000 bits
abbrev pub AreFew : PlanValue → ℕ → Type 0
AreFew plan runs = (runs ≤ 20000) × (runs * plan.bits ≤ 2000000000)

-- so many runs of this plan are more than 20,000, or may come to more than 2,000,000,000 bits
abbrev pub AreTooMany : PlanValue → ℕ → Type 0
AreTooMany plan runs = (20000 < runs) ⊎ (2000000000 < runs * plan.bits)

-- there is a run of the plan as it is, and one of the plan with each of what is tried, and these are the texts, by the
-- logs and the errors of these runs; so many runs may be made, and with the strikes of a run more the plan strikes at
-- most as many bits as it may in its version
pub record IsSweep (plan : PlanValue) (s : Sweeping) (text rows : List ℕ) : Type 0 where
  pub planned : TrialRunValue
  pub runs : List TrialRunValue
  pub as_planned : IsRan plan planned
  pub as_struck : AllZip (λ (t : Trial) (r : TrialRunValue). IsRan (struck_by plan t) r)
      (strikes_tried plan s planned.log) runs
  pub text_is : text
      ≡ sweep_text s.asked planned.log (outcomes_of plan planned (strikes_tried plan s planned.log) runs)
  pub rows_are : rows ≡ sweep_rows (outcomes_of plan planned (strikes_tried plan s planned.log) runs)
  pub few : s.meant ≡ false → AreFew plan (length (strikes_tried plan s planned.log))
  pub room : 0 < length (strikes_tried plan s planned.log) →
      times_in plan.strikes + strikes_a_run s.pairs ≤ most_strikes plan.version
  pub node : NamesItsNode plan s

-- too many runs, and it isn't said that they are meant; the node that is named is there
pub record IsRefused (plan : PlanValue) (s : Sweeping) (runs bits : ℕ) : Type 0 where
  pub planned : RunValue
  pub as_planned : IsSerialRun plan planned
  pub runs_are : runs ≡ length (strikes_tried plan s planned)
  pub bits_are : bits ≡ runs * plan.bits
  pub node : NamesItsNode plan s
  pub many : AreTooMany plan runs
  pub unmeant : s.meant ≡ false

-- the sweep names a node that the plan doesn't have
pub record NamesNoNode (plan : PlanValue) (s : Sweeping) : Type 0 where
  pub node : ℕ
  pub named : s.node ≡ Some node
  pub past : length plan.nodes ≤ node

-- the plan strikes so many bits that those of a run more are above the most of its version, and there is a run to make;
-- the node that is named is there, and there aren't too many runs, or so many are meant
pub record HasNoRoom (plan : PlanValue) (s : Sweeping) : Type 0 where
  pub planned : RunValue
  pub as_planned : IsSerialRun plan planned
  pub some : 0 < length (strikes_tried plan s planned)
  pub full : most_strikes plan.version < times_in plan.strikes + strikes_a_run s.pairs
  pub node : NamesItsNode plan s
  pub few : s.meant ≡ false → AreFew plan (length (strikes_tried plan s planned))

-- why there is no sweep, the first of these that holds: the node that is named isn't there; there are too many runs;
-- there is no room for their strikes. Once the node was looked for memory may be refused at any time, in a run too
abbrev pub IsSweepFault : PlanValue → Sweeping → SweepFault → Type 0
IsSweepFault plan s NoNode = NamesNoNode plan s
IsSweepFault plan s (TooMany runs bits) = IsRefused plan s runs bits
IsSweepFault plan s StrikeCount = HasNoRoom plan s
IsSweepFault plan s (Run f) = NamesItsNode plan s × (f ≡ NoMemory)
IsSweepFault plan s Memory = NamesItsNode plan s
