use Rattle.std.proofs.Common.{arith}
use Rattle.sja_bus.proofs.verdict.verdict_entry.Goals as goal

pub returns-in-Overrun : goal.returns-in-Overrun
returns-in-Overrun c = grind (arith, c.in-Overrun.is)
