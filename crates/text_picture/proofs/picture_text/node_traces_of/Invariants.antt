use Rattle.std.proofs.Common.{take}
use Rattle.text_trace.proofs.Stories.NodeStories.{HaveBegun}
use Rattle.text_picture.specs.Pages.{no_plan}
use Rattle.text_picture.proofs.picture_text.node_traces_of.Given as goal

-- those of the nodes so far
abbrev pub invariant-loop-node : goal.invariant-loop-node
invariant-loop-node l = HaveBegun no_plan (take l.node-index l.nodes) l.node_traces.items
