use Rattle.std.proofs.Common.{take}
use Rattle.text_svg.specs.Inside.Drawing.{AreFresh}
use Rattle.text_svg.proofs.all_lanes.lanes_of.Given as goal

-- those of the nodes so far
abbrev pub invariant-loop-node : goal.invariant-loop-node
invariant-loop-node l = AreFresh (take l._node-index l.nodes) l.lanes.items
