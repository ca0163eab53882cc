use Rattle.std.proofs.Common.{◌≡◌, take}
use Rattle.text_frames.proofs.FrameLines.Nodes.{HaveSome}
use Rattle.text_frames.proofs.started_list.frames_of.Given as goal

-- those of the nodes so far
abbrev pub invariant-loop-node : goal.invariant-loop-node
invariant-loop-node l = record {
  some : HaveSome (take l.node-index l.nodes) l.number l.found.items;
  number : l.number ≡ l.node-index;
}
