-- The two ends of a node's links, each link of two rings (this project's own rule).
use Rattle.std.specs.Prelude.{◌≡◌, ◌<◌, ℕ, zero, suc, Option, Some, None, List, [], length, slice_get, slice_index_or}
use Rattle.lemmas.specs.Related.{EachRelated}
use Rattle.sja_journal.specs.declared.sizes.TheConstants.{ACTIVATIONS, ITEMS_DOWN, ITEMS_UP}
use Rattle.sja_journal.specs.Lists.{Lists, nothing_yet}
use Rattle.sja_rings.specs.declared.ring_bus.RingBus.{RingBus}
use Rattle.sja_rings.specs.declared.ring_driver.RingDriver.{RingDriver}
use Rattle.sja_rings.specs.declared.node_bus.NodeBus.{NodeBus}
use Rattle.sja_rings.specs.declared.node_driver.NodeDriver.{NodeDriver}
use Rattle.sja_rings.specs.Ends.{BusLists, DriverLists, SameBus, SameDriver, OneLink, link_of_bus, link_of_driver}
use Rattle.sja_rings.specs.Ends.{places_down, places_up, shown_up, shown_down}

-- whose links they are
abbrev pub node_of_bus : NodeBus → ℕ
node_of_bus b = b.node

abbrev pub node_of_driver : NodeDriver → ℕ
node_of_driver d = d.node

-- the ends of the links, by activation
abbrev pub rings_of_bus : NodeBus → List RingBus
rings_of_bus b = b.rings.items

-- how many there are
abbrev pub links_of_bus : NodeBus → ℕ
links_of_bus b = length (rings_of_bus b)

abbrev pub rings_of_driver : NodeDriver → List RingDriver
rings_of_driver d = d.rings.items

-- that of the link of an activation, which are counted from 1, if there is one
abbrev pub ring_at : {R : Type 0} → List R → ℕ → Option R
ring_at rings zero = None
ring_at rings (suc place) = slice_get rings place

-- ---- what an end stands for on the link of an activation: its own two lists are those of its rings, and where there
-- are none, nothing was done

abbrev pub BusListsAt : Option RingBus → Lists → Type 0
BusListsAt None l = (l.put ≡ []) × (l.taken ≡ [])
BusListsAt (Some b) l = BusLists b l

abbrev pub NodeBusLists : NodeBus → ℕ → Lists → Type 0
NodeBusLists b a l = BusListsAt (ring_at (rings_of_bus b) a) l

abbrev pub DriverListsAt : Option RingDriver → Lists → Type 0
DriverListsAt None l = (l.got ≡ []) × (l.given ≡ [])
DriverListsAt (Some d) l = DriverLists d l

abbrev pub NodeDriverLists : NodeDriver → ℕ → Lists → Type 0
NodeDriverLists d a l = DriverListsAt (ring_at (rings_of_driver d) a) l

-- ---- where it may give an item back, and where it may show nothing: its ring knows of no free place, or has seen
-- nothing that wasn't taken out, or there is none

abbrev pub OnRing : {R : Type 0} → (R → Type 0) → Option R → Type 0
OnRing P None = Unit {0}
OnRing P (Some r) = P r

abbrev pub HasNoPlaceDown : NodeBus → ℕ → Type 0
HasNoPlaceDown b a = OnRing (λ (r : RingBus). places_down r ≡ 0) (ring_at (rings_of_bus b) a)

abbrev pub ShowsNothingUp : NodeBus → ℕ → Type 0
ShowsNothingUp b a = OnRing (λ (r : RingBus). shown_up r ≡ []) (ring_at (rings_of_bus b) a)

abbrev pub HasNoPlaceUp : NodeDriver → ℕ → Type 0
HasNoPlaceUp d a = OnRing (λ (r : RingDriver). places_up r ≡ 0) (ring_at (rings_of_driver d) a)

abbrev pub ShowsNothingDown : NodeDriver → ℕ → Type 0
ShowsNothingDown d a = OnRing (λ (r : RingDriver). shown_down r ≡ []) (ring_at (rings_of_driver d) a)

-- ---- the same end of the same links, and the same some calls later

abbrev pub SameNodeBus : NodeBus → NodeBus → Type 0
SameNodeBus a b = (node_of_bus b ≡ node_of_bus a) × EachRelated SameBus (rings_of_bus a) (rings_of_bus b)

abbrev pub SameNodeDriver : NodeDriver → NodeDriver → Type 0
SameNodeDriver a b =
    (node_of_driver b ≡ node_of_driver a) × EachRelated SameDriver (rings_of_driver a) (rings_of_driver b)

-- both ends come from one pair: they are of one node, and the ends of each link come from one pair
abbrev pub OneNode : NodeBus → NodeDriver → Type 0
OneNode b d = (node_of_driver d ≡ node_of_bus b) × EachRelated OneLink (rings_of_bus b) (rings_of_driver d)

-- ---- the ends as they are made: of 64 links, with nothing on them and all places free

pub record IsNewBus (node activation : ℕ) (b : RingBus) : Type 0 where
  pub link : link_of_bus b ≡ record { node = node; activation = activation }
  pub lists : BusLists b nothing_yet
  pub places : places_down b ≡ ITEMS_DOWN

pub record IsNewDriver (node activation : ℕ) (d : RingDriver) : Type 0 where
  pub link : link_of_driver d ≡ record { node = node; activation = activation }
  pub lists : DriverLists d nothing_yet
  pub places : places_up d ≡ ITEMS_UP

pub record IsNewNodeBus (node : ℕ) (b : NodeBus) : Type 0 where
  pub own : node_of_bus b ≡ node
  pub count : length (rings_of_bus b) ≡ ACTIVATIONS
  pub each : (place : ℕ) (x : RingBus) → place < ACTIVATIONS →
      IsNewBus node (suc place) (slice_index_or (rings_of_bus b) place x)

pub record IsNewNodeDriver (node : ℕ) (d : NodeDriver) : Type 0 where
  pub own : node_of_driver d ≡ node
  pub count : length (rings_of_driver d) ≡ ACTIVATIONS
  pub each : (place : ℕ) (x : RingDriver) → place < ACTIVATIONS →
      IsNewDriver node (suc place) (slice_index_or (rings_of_driver d) place x)
