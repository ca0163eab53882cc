use Rattle.std.proofs.Common.{map, take}
use Rattle.sja_sweep.specs.Inside.Reaching.{trial_run_value, outcome_value}
use Rattle.sja_sweep.specs.Inside.Tried.{AreTried}
use Rattle.sja_sweep.proofs.runs.all_tried.Given as goal

-- those so far were tried
abbrev pub invariant-loop-trial : goal.invariant-loop-trial
invariant-loop-trial l =
    AreTried l.plan (trial_run_value l.planned) (take l.trial-index l.trials) (map outcome_value l.tolds.items)
