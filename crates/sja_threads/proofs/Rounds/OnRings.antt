-- A bus stops on a link that is there.
use Rattle.std.proofs.Common.{◌≡◌, ◌<◌, ℕ, List, length, sym, ap, ◌∙◌, arith}
use Rattle.std.specs.Prelude.{slice_index_or}
use Rattle.std.proofs.lemmas.List.Elements.{AllZip-get_or}
use Rattle.sja_journal.specs.Links.{stops_of}
use Rattle.sja_rings.specs.declared.node_bus.NodeBus.{NodeBus}
use Rattle.sja_rings.specs.Carrying.{as_many_links}
use Rattle.sja_rings.specs.NodeRings.{rings_of_bus, SameNodeBus}
use Rattle.sja_plan.specs.Plan.{PlanValue}
use Rattle.sja_journal.specs.declared.bus_fault.BusFault.{BusFault}
use Rattle.sja_journal.specs.declared.bus_fault.BusFault.TheVariants.{Stuck}
use Rattle.sja_bus_rules.specs.Reasons.{IsBrokenOff, IsTakenAndRefused}
use Rattle.sja_bus_rules.specs.Wire.{journal_at}
use Rattle.sja_thread_promises.specs.Stopping.{StopsOn, any_orders, ring_ends}

module _ (counts : List ℕ) (plan : PlanValue) (after : List NodeBus) (f : BusFault) (bits : ℕ) (steps : List ℕ)
    (s : StopsOn counts plan after f) where
  pub refused_few : (t : IsTakenAndRefused ring_ends bits steps s.was.journals s.now.journals s.links after f) →
      stops_of (journal_at s.now.journals t.node) < 64
  refused_few t =
      let nodes = s.nodes in let few = t.few in
      let there : t.node < length plan.nodes = omega (arith, nodes, few) in
      let less = t.refuses.few in
      let count = ap (λ (e : NodeBus). length (rings_of_bus e)) (sym (t.is_end t.end))
      ∙ (s.stood.ends.each t.node t.end there).count in
      omega (arith, less, count)

  pub stuck_few : (b : IsBrokenOff ring_ends any_orders bits steps s.was.journals s.now.journals s.links f) →
      f ≡ Stuck b.node → stops_of (journal_at s.now.journals b.node) < 64
  stuck_few b is =
      let ends = s.stood.ends in
      let nodes = s.nodes in let few = b.few in let long = ends.count in
      let there : b.node < length plan.nodes = omega (arith, nodes, few) in
      let on = b.on_link is in
      let between = AllZip-get_or SameNodeBus s.links b.between b.node b.end b.end b.sames
      (omega (arith, long, there)) in
      let count = ap (λ (e : NodeBus). length (rings_of_bus e)) (sym (b.is_end b.end))
      ∙ as_many_links (slice_index_or s.links b.node b.end) (slice_index_or b.between b.node b.end) between
      ∙ (ends.each b.node b.end there).count in
      omega (arith, on, count)
