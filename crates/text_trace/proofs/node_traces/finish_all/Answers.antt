use Rattle.std.proofs.Common.{◌<◌, length, rules, sym, subst}
use Rattle.text_trace.specs.TraceProgress.{NodeTraceEnds}
use Rattle.text_trace.specs.Telling.{IsUnderway}
use Rattle.text_trace.specs.declared.node_trace.NodeTrace.{NodeTrace}
use Rattle.text_trace.proofs.Stories.NodeStories.{underway_at}
use Rattle.lemmas.proofs.ChangedInTurn.{part_none, part_at, part_next, part_all}
use Rattle.text_trace.proofs.node_traces.finish_all.Goals as goal

pub loop-k-init : goal.loop-k-init
loop-k-init c = part_none NodeTraceEnds c.args.node_traces.now

pub finish-requires : goal.finish-requires
finish-requires c =
    let k = c.loop-k.k in let d = c.index-node_traces-k.result in
    let here : k < length c.loop-k.node_traces = search rules in
    let there : k < length c.args.node_traces.now = search rules in
    let P : NodeTrace → Type 0 = λ t. IsUnderway t.bits in
    subst P (sym (part_at NodeTraceEnds k c.args.node_traces.now c.loop-k.node_traces d c.loop-k.invariant here))
    (underway_at c.args.node_traces.now k d c.requires there)

pub loop-k-preserved : goal.loop-k-preserved
loop-k-preserved c =
    let here : c.loop-k.k < length c.loop-k.node_traces = search rules in
    part_next NodeTraceEnds c.loop-k.k c.args.node_traces.now c.loop-k.node_traces c.index-node_traces-k.result
    c.finish.new.self
    c.loop-k.invariant here c.finish.ensures

pub returns : goal.returns
returns c = part_all NodeTraceEnds c.loop-k.k c.args.node_traces.now c.loop-k.node_traces c.loop-k.invariant
    (search rules)
