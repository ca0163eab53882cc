use Rattle.sja_laws.proofs.WholeRun.Rounds.{round_once}
use Rattle.sja_laws.proofs.watching.a_round_runs_one_number_of_bits.Goals as goal

pub returns : goal.returns
returns c = λ setup acts was now other count n m stands h g.
    round_once setup acts was now other count n m stands h g
