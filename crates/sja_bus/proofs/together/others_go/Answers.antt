use Rattle.std.proofs.Common.{◌≡◌, ◌<◌, ◌≤◌, length, rules, arith, sym, ap, ◌∙◌, subst, inl, inr}
use Rattle.std.specs.Prelude.{slice_index_or}
use Rattle.std.proofs.lemmas.List.{get_or_default as or_same}
use Rattle.lemmas.proofs.Numbers.{earlier_or_last}
use Rattle.can_node.specs.Together.{GoesWith}
use Rattle.sja_bus.specs.declared.bus_node.BusNode.{BusNode}
use Rattle.sja_bus.proofs.together.others_go.Goals.{then-k-lead+else-most-eq0, else-k-lead}
use Rattle.sja_bus.proofs.OneReader.Fewer.{fewer}
use Rattle.sja_bus.proofs.together.others_go.Goals as goal

pub loop-k-preserved : goal.loop-k-preserved
loop-k-preserved c = record {
  go = λ m s t low other.
      let bus_nodes = c.args.bus_nodes.now in let k = c.loop-k.k in let lead = c.args.lead in
      let from = (slice_index_or bus_nodes lead s).node in let now = (slice_index_or bus_nodes m t).node in
      let less : c.if-k-lead.most ≤ c.loop-k.most → m < k → GoesWith from c.if-k-lead.most now =
      λ few before. fewer from now c.if-k-lead.most c.loop-k.most few (c.loop-k.invariant.go m s t before other) in
      elim c.if-k-lead.branch [
        | then-k-lead+else-most-eq0 w ↦
            let most = w.min-most.ensures in let is = w.most-is in elim (earlier_or_last m k low) [
              | inl before ↦ less (omega (arith, most, is)) before
              | inr here ↦
                  let few : k < length bus_nodes = search rules in
                  let a = w.index-bus_nodes-lead.result in let b = w.index-bus_nodes-k.result in
                  let some : 0 < w.goes_with.result = let none = w.if-most-eq0.false in omega (arith, most, none) in
                  let P : BusNode → Type 0 = λ x. GoesWith x.node c.if-k-lead.most now in
                  let Q : BusNode → Type 0 = λ x. GoesWith (slice_index_or bus_nodes lead a).node c.if-k-lead.most
                  x.node in
                  let at : slice_index_or bus_nodes k b ≡ slice_index_or bus_nodes m t =
                  or_same bus_nodes k b t few ∙ ap (λ n. slice_index_or bus_nodes n t) (sym here) in
                  subst P (or_same bus_nodes lead a s c.requires) (subst Q at
                  (fewer (slice_index_or bus_nodes lead a).node (slice_index_or bus_nodes k b).node c.if-k-lead.most
                  w.goes_with.result (omega (arith, most, is)) (w.goes_with.ensures.goes some)))
            ]
        | else-k-lead w ↦ let is = w.most-is in elim (earlier_or_last m k low) [
          | inl before ↦ less (omega (arith, is)) before
          | inr here ↦ absurd (other (here ∙ w.if-k-lead.false))
        ]
      ];
}
