use Rattle.std.proofs.Common.{◌≡◌, take}
use Rattle.text_trace.proofs.Stories.NodeStories.{HaveBegun}
use Rattle.text_trace.proofs.node_traces.node_traces_of.Given as goal

-- those of the nodes so far
abbrev pub invariant-loop-node : goal.invariant-loop-node
invariant-loop-node l = record {
  begun : HaveBegun l.plan (take l.node-index l.nodes) l.node_traces.items;
  number : l.number ≡ l.node-index;
}
