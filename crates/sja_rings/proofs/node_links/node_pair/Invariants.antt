use Rattle.std.proofs.Common.{◌≡◌, ◌<◌, ℕ, suc, length, slice_index_or, vec_len, vec_capacity}
use Rattle.lemmas.specs.Related.{EachRelated}
use Rattle.sja_rings.specs.declared.ring_bus.RingBus.{RingBus}
use Rattle.sja_rings.specs.declared.ring_driver.RingDriver.{RingDriver}
use Rattle.sja_rings.specs.Ends.{OneLink}
use Rattle.sja_rings.specs.NodeRings.{IsNewBus, IsNewDriver}
use Rattle.sja_rings.proofs.node_links.node_pair.Given as goal

-- so many pairs were made, there is room for all, and each is new
abbrev pub invariant-loop-place : goal.invariant-loop-place
invariant-loop-place l = record {
  buses : vec_len l.buses ≡ l.place;
  drivers : vec_len l.drivers ≡ l.place;
  bus_room : vec_capacity l.buses ≡ 64;
  driver_room : vec_capacity l.drivers ≡ 64;
  one : EachRelated OneLink l.buses.items l.drivers.items;
  new_buses : (place : ℕ) (x : RingBus) → place < length l.buses.items →
      IsNewBus l.node (suc place) (slice_index_or l.buses.items place x);
  new_drivers : (place : ℕ) (x : RingDriver) → place < length l.drivers.items →
      IsNewDriver l.node (suc place) (slice_index_or l.drivers.items place x);
}
