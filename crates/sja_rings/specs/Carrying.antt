-- What the traits of ends ask of "the same end", for each end of a ring and of a link: it is the same as itself, and it
-- carries over from one call to the next; and that the same end has as many links (this project's own rule).
use Rattle.std.proofs.Common.{◌≡◌, length, refl, ◌∙◌, le_refl, le_trans}
use Rattle.std.proofs.lemmas.Slice.Zip.{AllZip-long}
use Rattle.rtrb.specs.Ends.{SameRing}
use Rattle.rtrb.specs.Ring.{SameProducer, SameConsumer}
use Rattle.rtrb.specs.declared.end.End.{End}
use Rattle.rtrb.specs.declared.producer.Producer.{Producer}
use Rattle.rtrb.specs.declared.consumer.Consumer.{Consumer}
use Rattle.sja_rings.specs.declared.node_bus.NodeBus.{NodeBus}
use Rattle.sja_rings.specs.declared.ring_bus.RingBus.{RingBus}
use Rattle.sja_rings.specs.declared.ring_driver.RingDriver.{RingDriver}
use Rattle.sja_rings.specs.Ends.{SameBus, SameDriver, reach_down, reach_up, seen_down, seen_up}
use Rattle.sja_rings.specs.NodeRings.{rings_of_bus, SameNodeBus}

module _ {T A P : Type 0} where
  pub same_ring : (e : End T A P) → SameRing e e
  same_ring e = (refl, refl, refl, refl)

  pub same_ring_trans : (a b c : End T A P) → SameRing a b → SameRing b c → SameRing a c
  same_ring_trans a b c p q = (q.0 ∙ p.0, q.1 ∙ p.1, q.2 ∙ p.2, q.3 ∙ p.3)

  pub same_producer : (p : Producer T A P) → SameProducer p p
  same_producer p = (same_ring p.end, refl)

  pub same_producer_trans : (a b c : Producer T A P) → SameProducer a b → SameProducer b c → SameProducer a c
  same_producer_trans a b c p q = (same_ring_trans a.end b.end c.end p.0 q.0, q.1 ∙ p.1)

  pub same_consumer : (c : Consumer T A P) → SameConsumer c c
  same_consumer c = (same_ring c.end, refl)

  pub same_consumer_trans : (a b c : Consumer T A P) → SameConsumer a b → SameConsumer b c → SameConsumer a c
  same_consumer_trans a b c p q = (same_ring_trans a.end b.end c.end p.0 q.0, q.1 ∙ p.1)

pub bus_refl : (b : RingBus) → SameBus b b
bus_refl b = (refl, same_producer b.down, same_consumer b.up, le_refl (reach_down b), le_refl (seen_up b))

pub bus_trans : (a b c : RingBus) → SameBus a b → SameBus b c → SameBus a c
bus_trans a b c p q = (
  q.0 ∙ p.0,
  same_producer_trans a.down b.down c.down p.1 q.1,
  same_consumer_trans a.up b.up c.up p.2 q.2,
  le_trans p.3 q.3,
  le_trans p.4 q.4,
)

pub driver_refl : (d : RingDriver) → SameDriver d d
driver_refl d = (refl, same_consumer d.down, same_producer d.up, le_refl (reach_up d), le_refl (seen_down d))

pub driver_trans : (a b c : RingDriver) → SameDriver a b → SameDriver b c → SameDriver a c
driver_trans a b c p q = (
  q.0 ∙ p.0,
  same_consumer_trans a.down b.down c.down p.1 q.1,
  same_producer_trans a.up b.up c.up p.2 q.2,
  le_trans p.3 q.3,
  le_trans p.4 q.4,
)

-- ---- the bus's end of a node's links

-- the same end has as many links
pub as_many_links : (a b : NodeBus) → SameNodeBus a b → length (rings_of_bus b) ≡ length (rings_of_bus a)
as_many_links a b same = AllZip-long SameBus (rings_of_bus a) (rings_of_bus b) same.1
