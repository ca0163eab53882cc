use Rattle.sja_laws.proofs.WholeRun.Sweeps.{sweep_once}
use Rattle.sja_laws.proofs.sweeping.a_sweep_has_one_text.Goals as goal

pub returns : goal.returns
returns c = sweep_once
