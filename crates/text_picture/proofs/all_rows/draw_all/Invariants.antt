use Rattle.text_picture.specs.Drawing.{Draws}
use Rattle.text_picture.proofs.NodeRows.Beside.{Beside}
use Rattle.text_picture.proofs.all_rows.draw_all.Given as goal

-- so many have the bit
abbrev pub invariant-loop-k : goal.invariant-loop-k
invariant-loop-k l = Beside (Draws l.bus) l.k l.node_traces l.initial.rows l.rows
