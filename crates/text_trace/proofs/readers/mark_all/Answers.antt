use Rattle.std.proofs.Common.{◌<◌, length, rules, sym, subst}
use Rattle.text_trace.specs.Inside.Reading.{Marks}
use Rattle.lemmas.proofs.ChangedInTurn.{part_none, part_at, part_next, part_all}
use Rattle.text_trace.specs.Telling.{IsUnderway}
use Rattle.text_trace.specs.declared.node_trace.NodeTrace.{NodeTrace}
use Rattle.text_trace.proofs.Stories.NodeStories.{underway_at}
use Rattle.text_trace.proofs.readers.mark_all.Goals as goal

pub loop-k-init : goal.loop-k-init
loop-k-init c = part_none (Marks c.args.reader.now) c.args.node_traces.now

pub mark-requires : goal.mark-requires
mark-requires c =
    let k = c.loop-k.k in let d = c.index-node_traces-k.result in
    let here : k < length c.loop-k.node_traces = search rules in
    let there : k < length c.args.node_traces.now = search rules in
    let P : NodeTrace → Type 0 = λ t. IsUnderway t.bits in
    subst P (sym (part_at (Marks c.args.reader.now) k c.args.node_traces.now c.loop-k.node_traces d c.loop-k.invariant
    here))
    (underway_at c.args.node_traces.now k d c.requires there)

pub loop-k-preserved : goal.loop-k-preserved
loop-k-preserved c =
    let here : c.loop-k.k < length c.loop-k.node_traces = search rules in
    part_next (Marks c.args.reader.now) c.loop-k.k c.args.node_traces.now c.loop-k.node_traces
    c.index-node_traces-k.result
    c.mark.new.self c.loop-k.invariant here c.mark.ensures

pub returns : goal.returns
returns c = part_all (Marks c.args.reader.now) c.loop-k.k c.args.node_traces.now c.loop-k.node_traces c.loop-k.invariant
    (search rules)
