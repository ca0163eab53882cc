-- What came out at the bus's ends of links that were gone through, one after another.
use Rattle.std.proofs.Common.{◌≡◌, ◌∷◌, ℕ, ◌<◌, List, length, drop, sym, subst, arith}
use Rattle.std.specs.Prelude.{slice_index_or}
use Rattle.rtrb.specs.Ring.{sent}
use Rattle.lemmas.proofs.Lists.{some_of}
use Rattle.sja_journal.specs.declared.up.Up.{Up}
use Rattle.sja_rings.specs.declared.node_bus.NodeBus.{NodeBus}
use Rattle.sja_rings.specs.declared.node_driver.NodeDriver.{NodeDriver}
use Rattle.sja_rings.specs.declared.ring_bus.RingBus.{RingBus}
use Rattle.sja_rings.specs.declared.ring_driver.RingDriver.{RingDriver}
use Rattle.sja_rings.specs.NodeRings.{rings_of_bus, rings_of_driver}
use Rattle.sja_plan.specs.Plan.{PlanValue}
use Rattle.sja_promises.proofs.NodeLog.Logging.{next_of}
use Rattle.sja_journal.specs.declared.bus_fault.BusFault.{BusFault}
use Rattle.sja_threads.specs.declared.handover.Handover.{Handover}
use Rattle.sja_thread_promises.specs.Stopping.{CameFirst, IsUnsettledBy, StopsWith}
use Rattle.sja_threads.specs.Inside.EndsJoined.{IsStopped}
use Rattle.sja_threads.specs.Inside.Settling.{AllCameFrom, LeavesUnsettled, SomeUnsettled, all_ends}
use Rattle.sja_threads.proofs.End.GoneThrough.{next_both}
use Rattle.sja_threads.proofs.End.LinksOver.{end_at, some_ring}

-- the next link isn't settled
pub unsettled_link : (bus : NodeBus) (driver : NodeDriver) (links : List RingBus) (ends : List RingDriver) (n : ℕ)
    (left_links : List RingBus) (left_ends : List RingDriver) (link : RingBus) (end : RingDriver) →
    links ≡ rings_of_bus bus → ends ≡ rings_of_driver driver → drop n links ≡ link ∷ left_links →
    drop n ends ≡ end ∷ left_ends → IsUnsettledBy link end → LeavesUnsettled bus driver
unsettled_link bus driver links ends n left_links left_ends link end are those is_link is_end why =
    let few = (next_of links left_links n link link is_link).2 in record {
      place = n;
      few = subst (λ (l : List RingBus). n < length l) are few;
      why = λ x y.
          subst (λ (l : List RingBus). IsUnsettledBy (slice_index_or l n x)
          (slice_index_or (rings_of_driver driver) n y)) are
          (subst (λ (l : List RingDriver). IsUnsettledBy (slice_index_or links n x) (slice_index_or l n y)) those
          (next_both (λ b d. IsUnsettledBy b d) links ends n left_links left_ends link end is_link is_end why x y));
    }

-- the next node has such a link
pub unsettled_node : (links : List NodeBus) (ends : List NodeDriver) (n : ℕ) (left_links : List NodeBus)
    (left_ends : List NodeDriver) (link : NodeBus) (end : NodeDriver) → drop n links ≡ link ∷ left_links →
    drop n ends ≡ end ∷ left_ends → LeavesUnsettled link end → SomeUnsettled links ends
unsettled_node links ends n left_links left_ends link end is_link is_end why = record {
  node = n;
  few = (next_of links left_links n link link is_link).2;
  why = next_both (λ b d. LeavesUnsettled b d) links ends n left_links left_ends link end is_link is_end why;
}

-- a bus stopped so where on each link what came out is a front of what went in
pub stops_with : (plan : PlanValue) (links : List NodeBus) (workeds : List (Handover NodeDriver)) (f : BusFault) →
    IsStopped plan links workeds f → ((node : ℕ) (b : NodeBus) (d : NodeDriver) → node < length links →
    AllCameFrom (slice_index_or links node b) (slice_index_or (all_ends workeds) node d)) → StopsWith plan f
stops_with plan links workeds f h all = record {
  after = links;
  stop = h.stop;
  works = h.works;
  follows = h.follows;
  came = λ node a b x few less.
      let count = h.joined.workeds_count in
      let many = h.joined.links_count in
      let w = some_of workeds node (omega (arith, few, count)) in
      let end = (slice_index_or workeds node w).end in
      let rings = (h.stop.ends.each node b few).count in
      let y = some_ring (slice_index_or links node b) end (h.joined.pairs node b w few)
      (omega (arith, rings)) in
      subst (λ (items : List Up). CameFirst (slice_index_or (rings_of_bus (slice_index_or links node b)) a x) items)
      (h.given node a w y few less)
      (subst (λ (d : NodeDriver). CameFirst (slice_index_or (rings_of_bus (slice_index_or links node b)) a x)
      (sent (slice_index_or (rings_of_driver d) a y).up))
      (end_at (length plan.nodes) links workeds h.joined node w end few)
      (all node b end (omega (arith, few, many)) a x y (omega (arith, less, rings))));
}
