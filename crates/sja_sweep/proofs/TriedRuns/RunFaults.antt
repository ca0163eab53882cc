-- Why there is no sweep of a plan, by why a run of it has no outcome.
use Rattle.std.proofs.Common.{◌≡◌, ℕ, List, length, subst}
use Rattle.sja_plan.specs.Plan.{PlanValue}
use Rattle.sja_sweep.specs.declared.sweep_fault.SweepFault.{SweepFault}
use Rattle.sja_sweep.specs.declared.sweep_fault.SweepFault.TheVariants.{NoNode, TooMany, StrikeCount, Run}
use Rattle.sja_sweep.specs.declared.sweep_fault.SweepFault.TheVariants.{Memory}
use Rattle.sja_sweep.specs.declared.sweeping.Sweeping.{Sweeping}
use Rattle.sja_sweep.specs.declared.trial.Trial.{Trial}
use Rattle.sja_sweep.specs.Errors.{TrialRunValue}
use Rattle.sja_sweep.specs.Sweeps.{IsSweepFault, NamesItsNode}
use Rattle.sja_sweep.specs.Inside.Reaching.{IsTrialFault, NamesNodeBelow}
use Rattle.sja_sweep.specs.Inside.Tried.{IsBegun}

-- ---- so there is no sweep

fails : (plan : PlanValue) (s : Sweeping) (f : SweepFault) → NamesItsNode plan s → IsTrialFault f →
    IsSweepFault plan s f
fails plan s Memory there h = there
fails plan s (Run why) there h = (there, h)
fails plan s StrikeCount there h = absurd h
fails plan s NoNode there h = absurd h
fails plan s (TooMany runs bits) there h = absurd h

-- the run of the plan as it is fails
pub planned_fails : (plan : PlanValue) (s : Sweeping) (nodes : ℕ) (f : SweepFault) → nodes ≡ length plan.nodes →
    NamesNodeBelow s nodes → IsTrialFault f → IsSweepFault plan s f
planned_fails plan s nodes f are there h = fails plan s f (subst (NamesNodeBelow s) are there) h

-- a trial fails, of a sweep that is begun
pub trial_fails : (plan : PlanValue) (s : Sweeping) (planned : TrialRunValue) (trials : List Trial) (f : SweepFault) →
    IsBegun plan s planned trials → IsTrialFault f → IsSweepFault plan s f
trial_fails plan s planned trials f begun h = fails plan s f begun.node h
