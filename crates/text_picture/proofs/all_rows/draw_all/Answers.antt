use Rattle.std.proofs.Common.{◌<◌, length, subst, slice_index_or, rules}
use Rattle.text_trace.specs.declared.node_trace.NodeTrace.{NodeTrace}
use Rattle.text_picture.specs.Drawing.{Draws}
use Rattle.text_picture.proofs.NodeRows.Beside.{beside_none, beside_next, beside_all}
use Rattle.text_picture.proofs.all_rows.draw_all.Goals as goal

pub loop-k-init : goal.loop-k-init
loop-k-init c = beside_none (Draws c.args.bus) c.args.node_traces.now c.args.rows.now c.requires

pub loop-k-preserved : goal.loop-k-preserved
loop-k-preserved c =
    let here : c.loop-k.k < length c.loop-k.rows = search rules in
    let P : NodeTrace → Type 0 =
    λ t. Draws c.args.bus t (slice_index_or c.loop-k.rows c.loop-k.k c.index-rows-k.result) c.draw.new.self in
    beside_next (Draws c.args.bus) c.loop-k.k c.args.node_traces.now c.args.rows.now c.loop-k.rows
    c.index-node_traces-k.result c.index-rows-k.result c.draw.new.self c.loop-k.invariant here
    (subst P c.index-node_traces-k.is c.in_ok-draw.ensures)

pub returns : goal.returns
returns c =
    beside_all (Draws c.args.bus) c.loop-k.k c.args.node_traces.now c.args.rows.now c.loop-k.rows c.loop-k.invariant
    (search rules)
