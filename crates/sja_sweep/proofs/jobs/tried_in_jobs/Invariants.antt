use Rattle.std.specs.Vec.Iter.{into_iter_items, into_iter_len}
use Rattle.sja_sweep.specs.Inside.Reaching.{trial_run_value}
use Rattle.sja_sweep.specs.Inside.Tried.{AreJoined}
use Rattle.sja_sweep.proofs.jobs.tried_in_jobs.Given as goal

-- what came of the parts so far
abbrev pub invariant-loop-part : goal.invariant-loop-part
invariant-loop-part g l =
    AreJoined (λ v. v.items) l.fn.plan (trial_run_value l.fn.planned) l.size l.fn.trials l.all.items
    (into_iter_items l.rest)

abbrev pub decreases-loop-part : goal.decreases-loop-part
decreases-loop-part g l = into_iter_len l.rest
