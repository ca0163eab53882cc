use Rattle.std.proofs.Common.{◌≡◌, length, false}
use Rattle.sja_sweep.specs.Nodes.{activation_at}
use Rattle.sja_sweep.specs.Kinds.{gets_more}
use Rattle.sja_sweep.proofs.NumberLists.Searches.{any_more}
use Rattle.sja_sweep.proofs.gains.some_gets_more.Goals as goal

pub loop-place-preserved : goal.loop-place-preserved
loop-place-preserved c =
    let a = c.loop-place.place in
    let none : gets_more (activation_at c.args.activations.now a) (activation_at c.args.others.now a) ≡ false = cc in
    any_more (λ i. gets_more (activation_at c.args.activations.now i) (activation_at c.args.others.now i)) a
    (length c.args.activations.now) _ c.loop-place-test.true none c.loop-place.invariant
