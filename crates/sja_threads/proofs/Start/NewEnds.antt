-- The two ends of a node's links, on which nothing was done yet.
use Rattle.std.proofs.Common.{◌≡◌, ℕ, suc, Option, Some, None, List, [], refl, sym, ◌∙◌}
use Rattle.sja_journal.specs.declared.entry.Entry.{Entry}
use Rattle.sja_journal.specs.Accounts.{Account, account}
use Rattle.sja_journal.specs.Links.{Kept}
use Rattle.sja_journal.specs.Lists.{Lists, nothing_yet}
use Rattle.sja_rings.specs.declared.node_bus.NodeBus.{NodeBus}
use Rattle.sja_rings.specs.declared.node_driver.NodeDriver.{NodeDriver}
use Rattle.sja_rings.specs.declared.ring_bus.RingBus.{RingBus}
use Rattle.sja_rings.specs.declared.ring_driver.RingDriver.{RingDriver}
use Rattle.sja_rings.specs.NodeRings.{rings_of_bus, rings_of_driver, ring_at, BusListsAt, DriverListsAt}
use Rattle.sja_rings.specs.NodeRings.{NodeBusLists, NodeDriverLists, OneNode, IsNewNodeBus, IsNewNodeDriver}
use Rattle.sja_threads.specs.Working.{AreUntouched}
use Rattle.sja_threads.specs.Inside.Making.{AreNewEnds}

-- each end stands for other lists that have the same two of its own
same_put : (b : Option RingBus) (l m : Lists) → l.put ≡ m.put → l.taken ≡ m.taken → BusListsAt b l → BusListsAt b m
same_put None l m put taken h = (sym put ∙ h.0, sym taken ∙ h.1)
same_put (Some b) l m put taken h = (h.0 ∙ put, h.1 ∙ taken)

same_got : (d : Option RingDriver) (l m : Lists) → l.got ≡ m.got → l.given ≡ m.given → DriverListsAt d l →
    DriverListsAt d m
same_got None l m got given h = (sym got ∙ h.0, sym given ∙ h.1)
same_got (Some d) l m got given h = (h.0 ∙ got, h.1 ∙ given)

-- so that of the driver is untouched, whatever the journal of its node is
pub untouched : (j : List Entry) (d : NodeDriver) → ((a : ℕ) → NodeDriverLists d a nothing_yet) →
    AreUntouched NodeDriverLists j d
untouched j d new a =
    same_got (ring_at (rings_of_driver d) (suc a)) nothing_yet (account j (suc a) (record { got = []; given = [] }))
    refl refl (new (suc a))

-- and that of the bus stands for an empty journal, whatever the driver got and gave
pub kept_new : (b : NodeBus) (h : ℕ → Account) → ((a : ℕ) → NodeBusLists b a nothing_yet) → Kept NodeBusLists [] b h
kept_new b h new a =
    same_put (ring_at (rings_of_bus b) (suc a)) nothing_yet (account [] (suc a) (h a)) refl refl (new (suc a))

-- both as they were made
pub new_ends : (node : ℕ) (b : NodeBus) (d : NodeDriver) → OneNode b d → IsNewNodeBus node b →
    IsNewNodeDriver node d → ((a : ℕ) → NodeBusLists b a nothing_yet) → ((a : ℕ) → NodeDriverLists d a nothing_yet) →
    AreNewEnds node b d
new_ends node b d one bus driver bus_lists driver_lists = record {
  is_bus = record { own = bus.own; count = bus.count; links = λ a x less. (bus.each a x less).link };
  bus_lists = bus_lists;
  own = driver.own;
  driver_lists = driver_lists;
  one = one;
}
