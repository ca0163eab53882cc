use Rattle.sja_regs.proofs.Calls.HistoryLemmas.{alc_keeps_first}
use Rattle.sja_regs.proofs.laws.alc_keeps_the_first_loss.Goals as goal

pub returns : goal.returns
returns c = alc_keeps_first
