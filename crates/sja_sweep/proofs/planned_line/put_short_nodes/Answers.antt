use Rattle.std.proofs.Common.{◌<◌, ◌++◌, length, string_bytes, arith, ap, ◌∙◌}
use Rattle.std.proofs.lemmas.List.{get_or_read}
use Rattle.sja_log.specs.Log.{NodeValue}
use Rattle.sja_sweep.specs.Nodes.{no_node, node_at}
use Rattle.sja_sweep.specs.SweepText.{short_node}
use Rattle.sja_sweep.proofs.NumberLists.Ranges.{text_more}
use Rattle.sja_sweep.proofs.planned_line.put_short_nodes.Goals as goal

pub loop-number-preserved : goal.loop-number-preserved
loop-number-preserved c =
    let k = c.loop-number.number in
    let less : k < length c.args.nodes.now = omega arith in
    text_more (λ n. short_node n (node_at c.args.nodes.now n)) k _ _ _ c.loop-number.invariant
    (c.in_ok-put_short_node.ensures
    ∙ ap (λ (x : NodeValue). string_bytes c.loop-number.text ++ short_node k x)
    (get_or_read c.args.nodes.now k c.index-nodes-number.result less c.index-nodes-number.is no_node))
