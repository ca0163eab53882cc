use Rattle.sja_laws.proofs.WholeRun.Sweeps.{row_once}
use Rattle.sja_laws.proofs.sweeping.a_row_of_a_sweep_is_of_the_run.Goals as goal

pub returns : goal.returns
returns c = row_once
