use Rattle.std.proofs.Common.{take}
use Rattle.text_wave.specs.Inside.Probes.{AreFirst}
use Rattle.text_wave.proofs.probes.probes_of.Given as goal

-- those of the nodes so far
abbrev pub invariant-loop-node : goal.invariant-loop-node
invariant-loop-node l = AreFirst (take l.node-index l.nodes) l.probes.items
