use Rattle.sja_regs.proofs.Calls.HistoryLemmas.{ecc_keeps_first}
use Rattle.sja_regs.proofs.laws.ecc_keeps_the_first_fault.Goals as goal

pub returns : goal.returns
returns c = ecc_keeps_first
