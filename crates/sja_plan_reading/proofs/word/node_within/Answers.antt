use Rattle.std.proofs.Common.{arith}
use Rattle.sja_plan_reading.proofs.word.node_within.Goals as goal

pub returns-clause-ok : goal.returns-clause-ok
returns-clause-ok c = (c.in_ok-node.ensures.ok, omega arith)
