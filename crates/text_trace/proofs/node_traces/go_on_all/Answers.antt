use Rattle.std.proofs.Common.{◌<◌, length, rules}
use Rattle.text_trace.specs.TraceProgress.{NodeTraceGoesOn}
use Rattle.lemmas.proofs.ChangedInTurn.{part_none, part_next, part_all}
use Rattle.text_trace.proofs.node_traces.go_on_all.Goals as goal

pub loop-k-init : goal.loop-k-init
loop-k-init c = part_none NodeTraceGoesOn c.args.node_traces.now

pub loop-k-preserved : goal.loop-k-preserved
loop-k-preserved c =
    let here : c.loop-k.k < length c.loop-k.node_traces = search rules in
    part_next NodeTraceGoesOn c.loop-k.k c.args.node_traces.now c.loop-k.node_traces c.index-node_traces-k.result
    c.go_on.new.self
    c.loop-k.invariant here c.go_on.ensures

pub returns : goal.returns
returns c = part_all NodeTraceGoesOn c.loop-k.k c.args.node_traces.now c.loop-k.node_traces c.loop-k.invariant
    (search rules)
