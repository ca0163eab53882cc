use Rattle.text_svg.specs.Inside.Drawing.{Passes}
use Rattle.text_picture.specs.Drawing.{InFull}
use Rattle.text_picture.proofs.NodeRows.Beside.{Beside}
use Rattle.text_svg.proofs.all_lanes.pass_all.Given as goal

-- so many went past the bit
abbrev pub invariant-loop-k : goal.invariant-loop-k
invariant-loop-k l = Beside (InFull Passes) l.k l.node_traces l.initial.lanes l.lanes
