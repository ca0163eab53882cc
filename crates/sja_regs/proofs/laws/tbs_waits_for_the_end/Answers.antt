use Rattle.sja_regs.proofs.Calls.HistoryLemmas.{tbs_waits}
use Rattle.sja_regs.proofs.laws.tbs_waits_for_the_end.Goals as goal

pub returns : goal.returns
returns c = tbs_waits
