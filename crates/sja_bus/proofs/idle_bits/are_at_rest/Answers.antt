use Rattle.std.proofs.Common.{◌≡◌, ℕ, ◌<◌, Bool, true, false, length, rules, arith, sym, subst, inl, inr}
use Rattle.std.specs.Prelude.{slice_index_or}
use Rattle.std.proofs.lemmas.List.{get_or_default as or_same}
use Rattle.lemmas.proofs.Numbers.{earlier_or_last}
use Rattle.can_node.specs.Stands.{ShowsRest}
use Rattle.sja_bus.specs.declared.bus_node.BusNode.{BusNode}
use Rattle.sja_bus.proofs.idle_bits.are_at_rest.Goals as goal

pub returns-then-not-at_rest-clause-busy : goal.returns-then-not-at_rest-clause-busy
returns-then-not-at_rest-clause-busy c = λ e.
    let bus_nodes = c.args.bus_nodes.now in let k = c.loop-k.k in
    let few : k < length bus_nodes = search rules in
    let here : BusNode = slice_index_or bus_nodes k c.index-bus_nodes-k.result in
    let is : c.at_rest.result ≡ false = search rules in
    let shows : ShowsRest here.node false = subst (λ (b : Bool). ShowsRest here.node b) is c.at_rest.ensures in (
      k,
      few,
      λ s. subst (λ (x : BusNode). ShowsRest x.node false) (or_same bus_nodes k c.index-bus_nodes-k.result s
          few) shows,
    )

pub loop-k-preserved : goal.loop-k-preserved
loop-k-preserved c =
    let bus_nodes = c.args.bus_nodes.now in let k = c.loop-k.k in
    let few : k < length bus_nodes = search rules in
    let here : BusNode = slice_index_or bus_nodes k c.index-bus_nodes-k.result in
    let is : c.at_rest.result ≡ true = search rules in
    let shows : ShowsRest here.node true = subst (λ (b : Bool). ShowsRest here.node b) is c.at_rest.ensures in
    record {
      rest = λ m s h. elim (earlier_or_last m k h) [
        | inl before ↦ c.loop-k.invariant.rest m s before
        | inr now ↦ subst (λ (n : ℕ). ShowsRest (slice_index_or bus_nodes n s).node true) (sym now)
            (subst (λ (x : BusNode). ShowsRest x.node true) (or_same bus_nodes k c.index-bus_nodes-k.result s few)
            shows)
      ];
    }

pub returns-clause-rest : goal.returns-clause-rest
returns-clause-rest c = λ e k s few. let end = c.loop-k-test.false in
    c.loop-k.invariant.rest k s (omega (arith, few, end))
