use Rattle.std.proofs.Common.{◌≡◌, ◌<◌, true, length, rules, sym, subst}
use Rattle.text_trace.specs.Inside.Reading.{PassesFrom}
use Rattle.lemmas.proofs.ChangedInTurn.{part_none, part_at, part_next, part_all}
use Rattle.sja_replay.specs.Reading.{Receives}
use Rattle.text_trace.specs.declared.node_trace.NodeTrace.{NodeTrace}
use Rattle.text_trace.proofs.readers.pass_from_all.Goals as goal

pub loop-k-init : goal.loop-k-init
loop-k-init c = part_none (PassesFrom c.args.reader.now) c.args.node_traces.now

pub pass_from-requires : goal.pass_from-requires
pass_from-requires c =
    let k = c.loop-k.k in let d = c.index-node_traces-k.result in
    let here : k < length c.loop-k.node_traces = search rules in
    let there : k < length c.args.node_traces.now = search rules in
    let P : NodeTrace → Type 0 = λ t. t.reads ≡ true → Receives t.bits.replay in
    subst P (sym (part_at (PassesFrom c.args.reader.now) k c.args.node_traces.now c.loop-k.node_traces d
    c.loop-k.invariant
    here))
    (c.requires k d there)

pub loop-k-preserved : goal.loop-k-preserved
loop-k-preserved c =
    let here : c.loop-k.k < length c.loop-k.node_traces = search rules in
    part_next (PassesFrom c.args.reader.now) c.loop-k.k c.args.node_traces.now c.loop-k.node_traces
    c.index-node_traces-k.result
    c.pass_from.new.self c.loop-k.invariant here c.pass_from.ensures

pub returns : goal.returns
returns c = part_all (PassesFrom c.args.reader.now) c.loop-k.k c.args.node_traces.now c.loop-k.node_traces
    c.loop-k.invariant (search rules)
