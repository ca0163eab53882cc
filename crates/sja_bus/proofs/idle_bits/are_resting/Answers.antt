use Rattle.std.proofs.Common.{◌≡◌, ℕ, ◌<◌, true, false, length, rules, sym, subst, inl, inr}
use Rattle.std.specs.Prelude.{slice_index_or}
use Rattle.std.proofs.lemmas.List.{get_or_default as or_same}
use Rattle.lemmas.proofs.Numbers.{earlier_or_last}
use Rattle.sja_bus.specs.declared.bus_node.BusNode.{BusNode}
use Rattle.sja_bus.specs.Inside.Idling.{IsResting, IsAwake}
use Rattle.sja_bus.proofs.idle_bits.are_resting.Goals as goal

pub loop-k-preserved : goal.loop-k-preserved
loop-k-preserved c =
    let bus_nodes = c.args.bus_nodes.now in let k = c.loop-k.k in let d = c.index-bus_nodes-k.result in
    let few : k < length bus_nodes = search rules in
    let here : BusNode = slice_index_or bus_nodes k d in
    let is : c.is_resting.result ≡ true = search rules in
    let rests : IsResting here = subst (λ (x : BusNode). IsResting x) c.index-bus_nodes-k.is
    (c.is_resting.ensures.yes is) in
    λ m s h. elim (earlier_or_last m k h) [
      | inl before ↦ c.loop-k.invariant m s before
      | inr now ↦ subst (λ (n : ℕ). IsResting (slice_index_or bus_nodes n s)) (sym now)
          (subst (λ (x : BusNode). IsResting x) (or_same bus_nodes k d s few) rests)
    ]

pub returns-then-not-is_resting-clause-no : goal.returns-then-not-is_resting-clause-no
returns-then-not-is_resting-clause-no c = λ no.
    let bus_nodes = c.args.bus_nodes.now in let k = c.loop-k.k in let d = c.index-bus_nodes-k.result in
    let few : k < length bus_nodes = search rules in
    let is : c.is_resting.result ≡ false = search rules in
    let awake : IsAwake (slice_index_or bus_nodes k d) = subst (λ (x : BusNode). IsAwake x) c.index-bus_nodes-k.is
    (c.is_resting.ensures.no is) in
    (k, few, λ s. subst (λ (x : BusNode). IsAwake x) (or_same bus_nodes k d s few) awake)
