use Rattle.sja_laws.proofs.WholeRun.Watched.{watched_once}
use Rattle.sja_laws.proofs.watching.a_watch_runs_one_number_of_bits.Goals as goal

pub returns : goal.returns
returns c = λ was now other count watched n m rose too step_runs h g.
    watched_once was now other count watched n m rose too step_runs h g
