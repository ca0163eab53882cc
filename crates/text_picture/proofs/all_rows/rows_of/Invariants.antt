use Rattle.std.proofs.Common.{take}
use Rattle.text_picture.specs.Drawing.{AreFresh}
use Rattle.text_picture.proofs.all_rows.rows_of.Given as goal

-- those of the nodes so far
abbrev pub invariant-loop-node : goal.invariant-loop-node
invariant-loop-node l = AreFresh (take l._node-index l.nodes) l.rows.items
