use Rattle.std.proofs.Common.{map}
use Rattle.sja_sweep.specs.Inside.Reaching.{trial_run_value, outcome_value}
use Rattle.sja_sweep.proofs.TriedStrikes.TriedLemmas.{sweep_texts}
use Rattle.sja_sweep.proofs.whole_sweep.texts.Goals as goal

pub returns : goal.returns
returns c = λ plan begun tried.
    sweep_texts plan c.args.sweeping.now (trial_run_value c.args.begun.now.planned) c.args.begun.now.trials.items
    (map outcome_value c.args.tolds.now) c.write_texts.result begun tried c.write_texts.ensures.text
    c.write_texts.ensures.rows
