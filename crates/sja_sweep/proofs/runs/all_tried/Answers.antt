use Rattle.sja_sweep.specs.Inside.Reaching.{trial_run_value}
use Rattle.sja_sweep.proofs.TriedStrikes.TriedLemmas.{tried_more}
use Rattle.sja_sweep.proofs.runs.all_tried.Goals as goal

pub loop-trial-preserved : goal.loop-trial-preserved
loop-trial-preserved c =
    tried_more c.args.plan.now (trial_run_value c.args.planned.now) c.args.trials.now c.loop-trial.tolds.items
    c.push.new.self.items
    c.loop-trial.trial-index _ c.in_ok-tried.field-0
    c.loop-trial-test.true c.in_ok-push.ensures.items c.loop-trial.invariant c.in_ok-tried.ensures.ok
