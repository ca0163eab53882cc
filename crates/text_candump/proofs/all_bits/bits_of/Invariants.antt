use Rattle.std.proofs.Common.{take}
use Rattle.text_candump.proofs.SoFar.Stories.{HaveBegun}
use Rattle.text_candump.proofs.all_bits.bits_of.Given as goal

-- those of the nodes so far
abbrev pub invariant-loop-node : goal.invariant-loop-node
invariant-loop-node l = HaveBegun (take l.node-index l.nodes) l.all.items
