use Rattle.std.proofs.Common.{rules, ◌≡◌, ◌<◌, length, nat_lt, false, arith, ap₂, sym, ◌∙◌}
use Rattle.std.proofs.lemmas.List.{get_or_read}
use Rattle.sja_log.specs.Log.{NodeValue}
use Rattle.sja_sweep.specs.Nodes.{no_node, node_at}
use Rattle.sja_sweep.proofs.NumberLists.Searches.{any_more}
use Rattle.sja_sweep.proofs.gains.did_less.Goals as goal

pub loop-node-preserved : goal.loop-node-preserved
loop-node-preserved c =
    let k = c.loop-node.node in
    let less : k < length c.args.now.now = omega arith in
    let there : k < length c.args.without.now = omega (arith, c.requires) in
    let one = get_or_read c.args.now.now k c.index-now-node.result less c.index-now-node.is no_node in
    let other = get_or_read c.args.without.now k c.index-without-node.result there c.index-without-node.is no_node in
    let none : nat_lt (length c.index-now-node.result.done) (length c.index-without-node.result.done) ≡ false =
    search rules in
    any_more (λ i. nat_lt (length (node_at c.args.now.now i).done) (length (node_at c.args.without.now i).done))
    k (length c.args.now.now) _ c.loop-node-test.true
    (sym (ap₂ (λ (a b : NodeValue). nat_lt (length a.done) (length b.done)) one other) ∙ none)
    c.loop-node.invariant
