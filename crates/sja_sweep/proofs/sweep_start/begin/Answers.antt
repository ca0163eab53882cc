use Rattle.std.proofs.Common.{sym, subst}
use Rattle.sja_sweep.specs.Inside.Reaching.{NamesNodeBelow, trial_run_value}
use Rattle.sja_sweep.proofs.sweep_start.begin.Goals as goal

pub list_trials-requires : goal.list_trials-requires
list_trials-requires c =
    subst (NamesNodeBelow c.args.sweeping.now) c.nodes.ensures.value c.in_ok-check_node.ensures.ok

pub returns-in-Ok-clause-ok : goal.returns-in-Ok-clause-ok
returns-in-Ok-clause-ok c =
    c.in-Ok.ensures.ok (trial_run_value c.in_ok-planned.planned) c.in_ok-planned.ensures.ok (sym c.bits.ensures)

pub returns-in-Err-clause-err : goal.returns-in-Err-clause-err
returns-in-Err-clause-err c =
    c.in-Err.ensures.err (trial_run_value c.in_ok-planned.planned) c.in_ok-planned.ensures.ok (sym c.bits.ensures)
