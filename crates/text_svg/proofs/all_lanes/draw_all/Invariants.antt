use Rattle.text_svg.specs.Inside.Drawing.{Draws}
use Rattle.text_picture.specs.Drawing.{InFull}
use Rattle.text_picture.proofs.NodeRows.Beside.{Beside}
use Rattle.text_svg.proofs.all_lanes.draw_all.Given as goal

-- so many have the bit
abbrev pub invariant-loop-k : goal.invariant-loop-k
invariant-loop-k l = Beside (InFull (Draws l.x l.bus)) l.k l.node_traces l.initial.lanes l.lanes
