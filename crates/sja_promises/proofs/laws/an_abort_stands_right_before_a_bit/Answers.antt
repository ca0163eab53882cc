use Rattle.sja_promises.proofs.Trace.AbortsFirst.{abort_first}
use Rattle.sja_promises.proofs.laws.an_abort_stands_right_before_a_bit.Goals as goal

pub returns : goal.returns
returns c = abort_first
