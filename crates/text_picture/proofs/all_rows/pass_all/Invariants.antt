use Rattle.text_picture.specs.Drawing.{Passes}
use Rattle.text_picture.proofs.NodeRows.Beside.{Beside}
use Rattle.text_picture.proofs.all_rows.pass_all.Given as goal

-- so many went past the bit
abbrev pub invariant-loop-k : goal.invariant-loop-k
invariant-loop-k l = Beside Passes l.k l.node_traces l.initial.rows l.rows
