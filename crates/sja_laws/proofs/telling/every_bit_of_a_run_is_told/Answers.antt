use Rattle.sja_laws.proofs.RunsTold.AllRuns.{bits_told}
use Rattle.sja_laws.proofs.telling.every_bit_of_a_run_is_told.Goals as goal

pub returns : goal.returns
returns c = bits_told
