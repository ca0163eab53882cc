use Rattle.std.proofs.Common.{◌<◌, length, rules}
use Rattle.text_svg.specs.Inside.Drawing.{Passes}
use Rattle.text_picture.specs.Drawing.{InFull}
use Rattle.text_picture.proofs.NodeRows.Beside.{beside_none, beside_next, beside_all}
use Rattle.text_svg.proofs.all_lanes.pass_all.Goals as goal

pub loop-k-init : goal.loop-k-init
loop-k-init c = beside_none (InFull Passes) c.args.node_traces.now c.args.lanes.now c.requires

pub loop-k-preserved : goal.loop-k-preserved
loop-k-preserved c =
    let here : c.loop-k.k < length c.loop-k.lanes = search rules in
    beside_next (InFull Passes) c.loop-k.k c.args.node_traces.now c.args.lanes.now c.loop-k.lanes
    c.index-node_traces-k.result
    c.index-lanes-k.result c.pass.new.self c.loop-k.invariant here
    (rw c.bit.ensures at c.pass.ensures)

pub returns : goal.returns
returns c =
    beside_all (InFull Passes) c.loop-k.k c.args.node_traces.now c.args.lanes.now c.loop-k.lanes c.loop-k.invariant
    (search rules)
