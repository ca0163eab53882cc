use Rattle.std.proofs.Common.{◌<◌, length, rules}
use Rattle.text_svg.specs.Inside.Drawing.{Draws}
use Rattle.text_picture.specs.Drawing.{InFull}
use Rattle.text_picture.proofs.NodeRows.Beside.{beside_none, beside_next, beside_all}
use Rattle.text_svg.proofs.all_lanes.draw_all.Goals as goal

pub loop-k-init : goal.loop-k-init
loop-k-init c = beside_none (InFull (Draws c.args.x c.args.bus)) c.args.node_traces.now c.args.lanes.now c.requires

pub loop-k-preserved : goal.loop-k-preserved
loop-k-preserved c =
    let here : c.loop-k.k < length c.loop-k.lanes = search rules in
    beside_next (InFull (Draws c.args.x c.args.bus)) c.loop-k.k c.args.node_traces.now c.args.lanes.now c.loop-k.lanes
    c.index-node_traces-k.result c.index-lanes-k.result c.draw.new.self c.loop-k.invariant here
    (rw c.bit.ensures at c.in_ok-draw.ensures)

pub returns : goal.returns
returns c =
    beside_all (InFull (Draws c.args.x c.args.bus)) c.loop-k.k c.args.node_traces.now c.args.lanes.now c.loop-k.lanes
    c.loop-k.invariant (search rules)
