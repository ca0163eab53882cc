use Rattle.sja_laws.proofs.RunsTold.AllRuns.{told_there}
use Rattle.sja_laws.proofs.telling.every_journal_of_a_run_has_bit_events.Goals as goal

pub returns : goal.returns
returns c = told_there
