use Rattle.std.proofs.Common.{List, sym, subst}
use Rattle.sja_sweep.specs.declared.trial_outcome.TrialOutcome.{TrialOutcome}
use Rattle.sja_sweep.specs.declared.trial.Trial.{Trial}
use Rattle.sja_sweep.specs.Inside.Reaching.{trial_run_value}
use Rattle.sja_sweep.specs.Inside.Tried.{AreTold}
use Rattle.sja_sweep.proofs.whole_sweep.sweep_jobs.Goals as goal

pub returns-clause-ok : goal.returns-clause-ok
returns-clause-ok g c =
    let plan = c.args.plan.now in
    let planned = trial_run_value c.in_ok-begun.begun.planned in
    let trials = c.in_ok-begun.begun.trials.items in
    c.in_ok-swept.ensures plan c.in_ok-begun.ensures.ok
    (subst (λ (l : List TrialOutcome). AreTold plan planned trials l) (sym c.as_slice.ensures.value)
    (subst (λ (l : List Trial). AreTold plan planned l c.in_ok-tolds.tolds.items) c.as_slice-trials.ensures.value
    c.in_ok-tolds.ensures.ok))
