use Rattle.std.proofs.Common.{◌<◌, length, rules, sym, subst}
use Rattle.sja_replay.specs.ReplayRest.{RestsFor}
use Rattle.text_trace.specs.TraceRest.{HasRested}
use Rattle.text_trace.specs.declared.node_trace.NodeTrace.{NodeTrace}
use Rattle.lemmas.proofs.ChangedInTurn.{part_none, part_at, part_next, part_all}
use Rattle.text_trace.proofs.node_traces.rest_all.Goals as goal

pub loop-k-init : goal.loop-k-init
loop-k-init c = part_none (HasRested c.args.count) c.args.node_traces.now

pub rest-requires : goal.rest-requires
rest-requires c =
    let k = c.loop-k.k in let d = c.index-node_traces-k.result in
    let here : k < length c.loop-k.node_traces = search rules in
    let there : k < length c.args.node_traces.now = search rules in
    let P : NodeTrace → Type 0 = λ t. RestsFor t.bits.replay c.args.count in
    subst P (sym (part_at (HasRested c.args.count) k c.args.node_traces.now c.loop-k.node_traces d c.loop-k.invariant
    here))
    (c.requires k d there)

pub loop-k-preserved : goal.loop-k-preserved
loop-k-preserved c =
    let here : c.loop-k.k < length c.loop-k.node_traces = search rules in
    part_next (HasRested c.args.count) c.loop-k.k c.args.node_traces.now c.loop-k.node_traces
    c.index-node_traces-k.result
    c.rest.new.self c.loop-k.invariant here c.rest.ensures

pub returns : goal.returns
returns c = part_all (HasRested c.args.count) c.loop-k.k c.args.node_traces.now c.loop-k.node_traces c.loop-k.invariant
    (search rules)
