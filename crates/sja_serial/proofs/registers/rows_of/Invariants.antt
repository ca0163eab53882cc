use Rattle.sja_serial.proofs.WholeRun.RowsAdded.{HasRows}
use Rattle.sja_serial.proofs.registers.rows_of.Given as goal

-- the rows of the nodes so far
abbrev pub invariant-loop-node : goal.invariant-loop-node
invariant-loop-node g l = HasRows g.setup l.initial.run l.run l.rows.items l.node

abbrev pub ghost-push_node : goal.ghost-push_node
ghost-push_node g a = g.setup
