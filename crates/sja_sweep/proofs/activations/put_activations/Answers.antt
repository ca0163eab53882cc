use Rattle.sja_sweep.specs.Nodes.{activation_at}
use Rattle.sja_sweep.specs.Changes.{activation_items}
use Rattle.sja_sweep.proofs.NumberLists.Ranges.{text_more}
use Rattle.sja_sweep.proofs.activations.put_activations.Goals as goal

pub loop-place-preserved : goal.loop-place-preserved
loop-place-preserved c =
    text_more (λ a. activation_items c.args.node a
    (activation_at c.args.without.now a) (activation_at c.args.now.now a))
    c.loop-place.place _ _ _ c.loop-place.invariant
    c.in_ok-put_activation.ensures
