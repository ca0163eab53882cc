use Rattle.std.proofs.Common.{◌≡◌, ◌<◌, length, false, arith, ap₂, sym, ◌∙◌}
use Rattle.std.proofs.lemmas.List.{get_or_read}
use Rattle.sja_log.specs.Log.{NodeValue}
use Rattle.sja_sweep.specs.Nodes.{no_node, node_at}
use Rattle.sja_sweep.specs.Kinds.{some_gets_more}
use Rattle.sja_sweep.proofs.NumberLists.Searches.{any_more}
use Rattle.sja_sweep.proofs.gains.got_more.Goals as goal

pub loop-node-preserved : goal.loop-node-preserved
loop-node-preserved c =
    let k = c.loop-node.node in
    let less : k < length c.args.nodes.now = omega arith in
    let there : k < length c.args.others.now = omega (arith, c.requires) in
    let one = get_or_read c.args.nodes.now k c.index-nodes-node.result less c.index-nodes-node.is no_node in
    let other = get_or_read c.args.others.now k c.index-others-node.result there c.index-others-node.is no_node in
    let none : some_gets_more c.index-nodes-node.result.activations c.index-others-node.result.activations ≡ false =
    ap₂ some_gets_more (sym c.activations.ensures) (sym c.activations-in-loop-node.ensures)
    ∙ sym c.some_gets_more.ensures ∙ c.if-some_gets_more.false in
    any_more (λ i. some_gets_more (node_at c.args.nodes.now i).activations (node_at c.args.others.now i).activations)
    k (length c.args.nodes.now) _ c.loop-node-test.true
    (sym (ap₂ (λ (a b : NodeValue). some_gets_more a.activations b.activations) one other) ∙ none)
    c.loop-node.invariant
