use Rattle.std.proofs.Common.{◌<◌, length, subst, slice_index_or, rules}
use Rattle.text_trace.specs.declared.node_trace.NodeTrace.{NodeTrace}
use Rattle.text_picture.specs.Inside.PictureRest.{Rests}
use Rattle.text_picture.proofs.NodeRows.Beside.{beside_none, beside_next, beside_all}
use Rattle.text_picture.proofs.all_rows.draw_rest_all.Goals as goal

pub loop-k-init : goal.loop-k-init
loop-k-init c = beside_none (Rests c.args.count) c.args.node_traces.now c.args.rows.now c.requires

pub loop-k-preserved : goal.loop-k-preserved
loop-k-preserved c =
    let here : c.loop-k.k < length c.loop-k.rows = search rules in
    let P : NodeTrace → Type 0 =
    λ t. Rests c.args.count t (slice_index_or c.loop-k.rows c.loop-k.k c.index-rows-k.result) c.draw_rest.new.self in
    beside_next (Rests c.args.count) c.loop-k.k c.args.node_traces.now c.args.rows.now c.loop-k.rows
    c.index-node_traces-k.result c.index-rows-k.result c.draw_rest.new.self c.loop-k.invariant here
    (subst P c.index-node_traces-k.is c.in_ok-draw_rest.ensures)

pub returns : goal.returns
returns c =
    beside_all (Rests c.args.count) c.loop-k.k c.args.node_traces.now c.args.rows.now c.loop-k.rows c.loop-k.invariant
    (search rules)
