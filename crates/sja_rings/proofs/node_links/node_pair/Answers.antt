use Rattle.std.proofs.Common.{◌≡◌, ◌<◌, ℕ, suc, List, [], ◌∷◌, ◌++◌, length, slice_index_or, refl, sym}
use Rattle.std.proofs.Common.{subst, rules, arith}
use Rattle.lemmas.specs.Related.{EachRelated}
use Rattle.lemmas.proofs.Related.{related_push}
use Rattle.sja_journal.specs.Lists.{nothing_yet}
use Rattle.sja_rings.specs.declared.ring_bus.RingBus.{RingBus}
use Rattle.sja_rings.specs.declared.ring_driver.RingDriver.{RingDriver}
use Rattle.sja_rings.specs.Ends.{OneLink}
use Rattle.sja_rings.specs.NodeRings.{IsNewBus, IsNewDriver, BusListsAt, DriverListsAt}
use Rattle.sja_rings.proofs.RingsOfNode.{new_push, new_bus, new_driver, all_at}
use Rattle.sja_rings.proofs.node_links.node_pair.Goals as goal

pub loop-place-preserved : goal.loop-place-preserved
loop-place-preserved c =
    let inv = c.loop-place.invariant in let node = c.args.node in let place = c.loop-place.place in
    let buses : List RingBus = c.loop-place.buses.items in let drivers : List RingDriver = c.loop-place.drivers.items in
    let bus : RingBus = c.in_ok-bus.bus in let driver : RingDriver = c.in_ok-bus.driver in
    let made = c.in_ok-bus.ensures in
    let count = inv.buses in let buses_long = c.loop-place.buses.ok.0 in
    let many = inv.drivers in let drivers_long = c.loop-place.drivers.ok.0 in
    let now : List RingBus = c.push_reserved.new.self.items in
    let then : List RingDriver = c.push_reserved-in-loop-place.new.self.items in
    let first : now ≡ buses ++ bus ∷ [] = c.push_reserved.ensures.items in
    let second : then ≡ drivers ++ driver ∷ [] = c.push_reserved-in-loop-place.ensures.items in
    let One : List RingBus → List RingDriver → Type 0 = λ bs ds. EachRelated OneLink bs ds in
    let Buses : List RingBus → Type 0 = λ bs. (i : ℕ) (x : RingBus) → i < length bs →
    IsNewBus node (suc i) (slice_index_or bs i x) in
    let Drivers : List RingDriver → Type 0 = λ ds. (i : ℕ) (x : RingDriver) → i < length ds →
    IsNewDriver node (suc i) (slice_index_or ds i x) in
    record {
      buses = search rules;
      drivers = search rules;
      bus_room = search rules;
      driver_room = search rules;
      one = subst (λ bs. One bs then) (sym first)
          (subst (λ ds. One (buses ++ bus ∷ []) ds) (sym second)
          (related_push OneLink buses drivers bus driver inv.one made.one));
      new_buses = subst Buses (sym first) (new_push (λ i x. IsNewBus node (suc i) x) buses bus inv.new_buses
          (new_bus node place (length buses) bus (omega (arith, count, buses_long)) made.link made.bus made.down));
      new_drivers = subst Drivers (sym second) (new_push (λ i x. IsNewDriver node (suc i) x) drivers driver
          inv.new_drivers (new_driver node place (length drivers) bus driver (omega (arith, many, drivers_long))
          made.link made.one made.driver made.up));
    }

pub returns-clause-bus : goal.returns-clause-bus
returns-clause-bus c =
    let inv = c.loop-place.invariant in let count = inv.buses in let long = c.loop-place.buses.ok.0 in record {
      own = refl;
      count = omega (arith, count, long);
      each = λ place x few. inv.new_buses place x (omega (arith, count, long, few));
    }

pub returns-clause-driver : goal.returns-clause-driver
returns-clause-driver c =
    let inv = c.loop-place.invariant in let count = inv.drivers in let long = c.loop-place.drivers.ok.0 in record {
      own = refl;
      count = omega (arith, count, long);
      each = λ place x few. inv.new_drivers place x (omega (arith, count, long, few));
    }

pub returns-clause-bus_lists : goal.returns-clause-bus_lists
returns-clause-bus_lists c = all_at (λ r. BusListsAt r nothing_yet) (refl, refl) c.loop-place.buses.items
    (λ place x few. (c.loop-place.invariant.new_buses place x few).lists)

pub returns-clause-driver_lists : goal.returns-clause-driver_lists
returns-clause-driver_lists c = all_at (λ r. DriverListsAt r nothing_yet) (refl, refl) c.loop-place.drivers.items
    (λ place x few. (c.loop-place.invariant.new_drivers place x few).lists)
