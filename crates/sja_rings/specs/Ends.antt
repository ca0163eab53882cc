-- The two ends of a link of two rings (this project's own rule).
use Rattle.std.specs.Prelude.{◌≡◌, ◌+◌, ◌≤◌, ℕ, List, length}
use Rattle.rtrb.specs.Ring.{sent, received, known_free, known_items, IsPair, SameProducer, SameConsumer}
use Rattle.sja_journal.specs.declared.down.Down.{Down}
use Rattle.sja_journal.specs.declared.up.Up.{Up}
use Rattle.sja_link.specs.declared.link_id.LinkId.{LinkId}
use Rattle.sja_journal.specs.Lists.{Lists}
use Rattle.sja_rings.specs.declared.ring_bus.RingBus.{RingBus}
use Rattle.sja_rings.specs.declared.ring_driver.RingDriver.{RingDriver}

-- the link that an end is of
abbrev pub link_of_bus : RingBus → LinkId
link_of_bus b = b.id

abbrev pub link_of_driver : RingDriver → LinkId
link_of_driver d = d.id

-- the bus's end stands for the lists of what went into its ring down, and what came out of its ring up
abbrev pub BusLists : RingBus → Lists → Type 0
BusLists b l = (sent b.down ≡ l.put) × (received b.up ≡ l.taken)

-- the driver's end stands for those of what came out of its ring down, and what went into its ring up
abbrev pub DriverLists : RingDriver → Lists → Type 0
DriverLists d l = (received d.down ≡ l.got) × (sent d.up ≡ l.given)

-- the places that an end knows to be free; the other end may have freed more
abbrev pub places_down : RingBus → ℕ
places_down b = known_free b.down

abbrev pub places_up : RingDriver → ℕ
places_up d = known_free d.up

-- how far an end sends before an item comes back: the items that it has sent, and the places that it knows to be free
abbrev pub reach_down : RingBus → ℕ
reach_down b = length (sent b.down) + places_down b

abbrev pub reach_up : RingDriver → ℕ
reach_up d = length (sent d.up) + places_up d

-- the items that an end has seen and not taken out; the other end may have sent more
abbrev pub shown_up : RingBus → List Up
shown_up b = known_items b.up

abbrev pub shown_down : RingDriver → List Down
shown_down d = known_items d.down

-- how many items an end has seen: those that it took out, and those that it shows
abbrev pub seen_up : RingBus → ℕ
seen_up b = length (received b.up) + length (shown_up b)

abbrev pub seen_down : RingDriver → ℕ
seen_down d = length (received d.down) + length (shown_down d)

-- the same end of the same link, and the same some calls later: its number and its ends of both rings, it sends at
-- least as far, and has seen at least as many items
abbrev pub SameBus : RingBus → RingBus → Type 0
SameBus a b =
    (link_of_bus b ≡ link_of_bus a) × SameProducer a.down b.down × SameConsumer a.up b.up
    × (reach_down a ≤ reach_down b) × (seen_up a ≤ seen_up b)

abbrev pub SameDriver : RingDriver → RingDriver → Type 0
SameDriver a b =
    (link_of_driver b ≡ link_of_driver a) × SameConsumer a.down b.down × SameProducer a.up b.up
    × (reach_up a ≤ reach_up b) × (seen_down a ≤ seen_down b)

-- both ends come from one pair: they have one number, one ring down and one ring up
abbrev pub OneLink : RingBus → RingDriver → Type 0
OneLink b d = (link_of_driver d ≡ link_of_bus b) × IsPair b.down d.down × IsPair d.up b.up
