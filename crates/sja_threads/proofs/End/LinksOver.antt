-- The links of all nodes of a run that is over, and all its drivers.
use Rattle.std.proofs.Common.{◌≡◌, ℕ, ◌+◌, ◌<◌, ◌≤◌, List, length, sym, ap, subst, arith}
use Rattle.std.specs.Prelude.{slice_index_or}
use Rattle.std.proofs.lemmas.List.{get_or-map, length-map}
use Rattle.std.proofs.lemmas.Slice.Zip.{AllZip-long}
use Rattle.lemmas.proofs.Lists.{some_of}
use Rattle.sja_rings.specs.declared.node_bus.NodeBus.{NodeBus}
use Rattle.sja_rings.specs.declared.node_driver.NodeDriver.{NodeDriver}
use Rattle.sja_rings.specs.declared.ring_driver.RingDriver.{RingDriver}
use Rattle.sja_rings.specs.Ends.{OneLink}
use Rattle.sja_rings.specs.NodeRings.{rings_of_bus, rings_of_driver, OneNode}
use Rattle.sja_bus_rules.specs.Buses.{BusValue}
use Rattle.sja_bus_rules.specs.WholeRecords.{KeepsRecord}
use Rattle.sja_plan.specs.Plan.{PlanValue, IsInLimits}
use Rattle.sja_plan.proofs.PlanLimits.ByVersion.{bits_most}
use Rattle.sja_driver.specs.declared.logged_driver.LoggedDriver.{LoggedDriver}
use Rattle.sja_driver.specs.TypedActs.{TypedAct}
use Rattle.sja_driver.specs.LoggedDrivers.{IsLawful, log_of}
use Rattle.sja_driver.specs.Logs.{KeepsLog}
use Rattle.sja_threads.specs.declared.handover.Handover.{Handover}
use Rattle.sja_threads.specs.Inside.Ended.{IsOver}
use Rattle.sja_threads.specs.Inside.EndsJoined.{AreJoined}
use Rattle.sja_threads.specs.Inside.Settling.{all_drivers, all_ends}
use Rattle.sja_threads.proofs.Start.FewActs.{few_acts}

-- both ends of a node's links have as many of them, so there is one of the driver's where there is one of the bus's
pub as_many : (b : NodeBus) (d : NodeDriver) → OneNode b d → length (rings_of_driver d) ≡ length (rings_of_bus b)
as_many b d one = AllZip-long OneLink (rings_of_bus b) (rings_of_driver d) one.1

pub some_ring : (b : NodeBus) (d : NodeDriver) → OneNode b d → 1 ≤ length (rings_of_bus b) → RingDriver
some_ring b d one some = let many = as_many b d one in some_of (rings_of_driver d) 0 (omega (arith, some, many))

module _ (nodes : ℕ) (links : List NodeBus) (workeds : List (Handover NodeDriver)) (h : AreJoined nodes links workeds)
  where
    pub ends_count : length links ≡ length (all_ends workeds)
    ends_count =
        let many = length-map workeds (λ (w : Handover NodeDriver). w.end) in
        let l = h.links_count in let c = h.workeds_count in omega (arith, many, l, c)

    -- the end of a node's driver
    pub end_at : (node : ℕ) (w : Handover NodeDriver) (d : NodeDriver) → node < nodes →
        slice_index_or (all_ends workeds) node d ≡ (slice_index_or workeds node w).end
    end_at node w d few = let c = h.workeds_count in
        get_or-map (λ (x : Handover NodeDriver). x.end) workeds node w d (omega (arith, c, few))

    pub one_node : (node : ℕ) (b : NodeBus) (d : NodeDriver) → node < length links →
        OneNode (slice_index_or links node b) (slice_index_or (all_ends workeds) node d)
    one_node node b d less =
        let l = h.links_count in let c = h.workeds_count in
        let few : node < nodes = omega (arith, less, l) in
        let w = some_of workeds node (omega (arith, few, c)) in
        subst (λ (x : NodeDriver). OneNode (slice_index_or links node b) x) (sym (end_at node w d few))
        (h.pairs node b w few)

module _ (plan : PlanValue) (bus : BusValue) (links : List NodeBus) (workeds : List (Handover NodeDriver))
    (acts : List (List TypedAct)) (h : IsOver plan bus links workeds acts) where
  pub joined_over : AreJoined (length plan.nodes) links workeds
  joined_over = record {
    links_count = h.links_count;
    workeds_count = h.workeds_count;
    pairs = λ node b w few. (h.nodes node b w few).pair;
  }

  -- it is short enough for its record to be kept
  pub record_kept : IsInLimits plan → KeepsRecord (bus.run + bus.left) bus.steps (length bus.journals)
  record_kept limits node less =
      let few : node < length plan.nodes = let count = h.journals_count in omega (arith, less, count) in
      let steps = ap (λ (l : List ℕ). slice_index_or l node 0) h.steps in let acts = few_acts plan limits node few in
      let bits = h.all_bits in let own = limits.bits.1 in let all = bits_most plan.version in
      omega (arith, steps, acts, bits, own, all)

  -- what holds of each driver that was handed back
  each_driver : (P : LoggedDriver → Type 0) →
      ((node : ℕ) (b : NodeBus) (w : Handover NodeDriver) → node < length plan.nodes →
      P (slice_index_or workeds node w).driver) → (k : ℕ) (d : LoggedDriver) → k < length (all_drivers workeds) →
      P (slice_index_or (all_drivers workeds) k d)
  each_driver P all k d less =
      let many = length-map workeds (λ (w : Handover NodeDriver). w.driver) in
      let there : k < length workeds = omega (arith, many, less) in
      let c = h.workeds_count in let l = h.links_count in let w = some_of workeds k there in
      let b = some_of links k (omega (arith, there, c, l)) in
      subst P (sym (get_or-map (λ (w : Handover NodeDriver). w.driver) workeds k w d there))
      (all k b w (omega (arith, c, there)))

  pub all_keep : (k : ℕ) (d : LoggedDriver) → k < length (all_drivers workeds) →
      KeepsLog (log_of (slice_index_or (all_drivers workeds) k d))
  all_keep = each_driver (λ (x : LoggedDriver). KeepsLog (log_of x)) (λ node b w few. (h.nodes node b w few).keeps)

  pub all_lawful : (k : ℕ) (d : LoggedDriver) → k < length (all_drivers workeds) →
      IsLawful (slice_index_or (all_drivers workeds) k d)
  all_lawful = each_driver (λ (x : LoggedDriver). IsLawful x) (λ node b w few. (h.nodes node b w few).lawful)
