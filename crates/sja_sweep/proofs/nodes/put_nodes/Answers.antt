use Rattle.std.proofs.Common.{◌<◌, ◌++◌, List, length, string_bytes, arith, ap, ap₂, ◌∙◌}
use Rattle.std.specs.Option.{option_copied}
use Rattle.std.proofs.lemmas.List.{get_or_read}
use Rattle.sja_steps.specs.declared.step.Step.{Step}
use Rattle.sja_log.specs.Log.{NodeValue}
use Rattle.sja_sweep.specs.Nodes.{no_node, node_at}
use Rattle.sja_sweep.specs.Steps.{script_at}
use Rattle.sja_sweep.specs.Changes.{node_items}
use Rattle.sja_sweep.proofs.NumberLists.Ranges.{text_more}
use Rattle.sja_sweep.proofs.nodes.put_nodes.Goals as goal

pub loop-node-preserved : goal.loop-node-preserved
loop-node-preserved c =
    let k = c.loop-node.node in
    let less : k < length c.args.now.now = omega arith in
    let there : k < length c.args.without.now = omega (arith, c.requires) in
    let script = script_at (option_copied c.args.out) in
    text_more (λ n. node_items (script n) n (node_at c.args.without.now n) (node_at c.args.now.now n)) k _ _ _
    c.loop-node.invariant
    (c.in_ok-put_node.ensures
    ∙ ap (λ (s : List Step). string_bytes c.loop-node.text
    ++ node_items s k c.index-without-node.result c.index-now-node.result) c.script_at.ensures
    ∙ ap₂ (λ (a b : NodeValue). string_bytes c.loop-node.text ++ node_items (script k) k a b)
    (get_or_read c.args.without.now k c.index-without-node.result there c.index-without-node.is no_node)
    (get_or_read c.args.now.now k c.index-now-node.result less c.index-now-node.is no_node))
