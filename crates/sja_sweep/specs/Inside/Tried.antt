-- What was tried, and their outcomes.
use Rattle.std.specs.Prelude.{◌≡◌, ◌+◌, ◌*◌, ◌<◌, ◌≤◌, ℕ, false, List, [], ◌∷◌, ◌++◌, length, All, map, take, drop}
use Rattle.std.specs.Prelude.{Result, IfOk, IfErr}
use Rattle.std.specs.List.{AllZip}
use Rattle.sja_plan.specs.Limits.{most_strikes}
use Rattle.sja_plan.specs.Plan.{PlanValue, times_in}
use Rattle.sja_sweep.specs.Errors.{TrialRunValue, IsRan}
use Rattle.sja_sweep.specs.declared.sweep_fault.SweepFault.{SweepFault}
use Rattle.sja_sweep.specs.declared.trial_outcome.TrialOutcome.{TrialOutcome}
use Rattle.sja_sweep.specs.declared.trial.Trial.{Trial}
use Rattle.sja_sweep.specs.Targets.{strikes_a_run, struck_by}
use Rattle.sja_sweep.specs.declared.sweeping.Sweeping.{Sweeping}
use Rattle.sja_sweep.specs.Sweeps.{strikes_tried}
use Rattle.sja_sweep.specs.Inside.Reaching.{outcome_value, IsThere, IsTrialFault, NamesNodeBelow}
use Rattle.sja_sweep.specs.Outcome.{Outcome, outcome_of}

-- the outcome is that of a run of the plan with what is tried, against the run as planned
pub record IsTried (plan : PlanValue) (planned : TrialRunValue) (t : Trial) (o : Outcome) : Type 0 where
  pub ran : TrialRunValue
  pub run : IsRan (struck_by plan t) ran
  pub outcome : o ≡ outcome_of plan planned t ran

-- each of them
abbrev pub AreTried : PlanValue → TrialRunValue → List Trial → List Outcome → Type 0
AreTried plan planned targets outcomes = AllZip (IsTried plan planned) targets outcomes

-- the same, as they are told
abbrev pub AreTold : PlanValue → TrialRunValue → List Trial → List TrialOutcome → Type 0
AreTold plan planned trials tolds = AreTried plan planned trials (map outcome_value tolds)

-- a sweep is begun: the run of the plan as it is, and what is to be tried, which is not too much and has room in a plan
pub record IsBegun (plan : PlanValue) (s : Sweeping) (planned : TrialRunValue) (trials : List Trial) : Type 0 where
  pub as_planned : IsRan plan planned
  pub trials_are : trials ≡ strikes_tried plan s planned.log
  pub there : All (IsThere plan) trials
  pub few : s.meant ≡ false → (length trials ≤ 20000) × (length trials * plan.bits ≤ 2000000000)
  pub room : 0 < length trials → times_in plan.strikes + strikes_a_run s.pairs ≤ most_strikes plan.version
  pub node : NamesNodeBelow s (length plan.nodes)

-- what came of the trials of a part, or why nothing came
abbrev pub IsPartTried : {V : Type 0} → (V → List TrialOutcome) → PlanValue → TrialRunValue → List Trial →
    Result V SweepFault → Type 0
IsPartTried items plan planned trials r =
    IfOk r (λ tolds. AreTold plan planned trials (items tolds)) × IfErr r IsTrialFault

-- of all parts, each of so many trials but the last one, which may have fewer
abbrev pub ArePartsTried : {V : Type 0} → (V → List TrialOutcome) → PlanValue → TrialRunValue → ℕ → List Trial →
    List (Result V SweepFault) → Type 0
ArePartsTried items plan planned size trials [] = trials ≡ []
ArePartsTried items plan planned size trials (p ∷ ps) =
    IsPartTried items plan planned (take size trials) p × ArePartsTried items plan planned size (drop size trials) ps

-- what came of the first trials, and the parts that are left
pub record AreJoined {V : Type 0} (items : V → List TrialOutcome) (plan : PlanValue) (planned : TrialRunValue)
    (size : ℕ) (trials : List Trial) (all : List TrialOutcome) (parts : List (Result V SweepFault)) : Type 0 where
  pub done : List Trial
  pub left : List Trial
  pub whole : trials ≡ done ++ left
  pub tried : AreTold plan planned done all
  pub rest : ArePartsTried items plan planned size left parts
