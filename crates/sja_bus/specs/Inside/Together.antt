-- Bits of a bus in which nothing happens that a port is told, and those in which one node sends and the others go on
-- with it or are in reset.
use Rattle.std.specs.Prelude.{◌≡◌, ◌≢◌, ◌<◌, ◌≤◌, ℕ, suc, Bool, true, false, List, ◌++◌, length, map}
use Rattle.std.specs.Prelude.{slice_index_or}
use Rattle.can_levels.specs.declared.level.Level.{Level}
use Rattle.can_levels.specs.declared.level.Level.TheVariants.{Recessive}
use Rattle.can_bits.specs.declared.shift.Shift.{Shift}
use Rattle.can_node.specs.declared.node.Node.{Node}
use Rattle.can_node.specs.Stands.{DrivesNext, ShowsRest}
use Rattle.can_node.specs.Together.{GoesWith, following, is_sending, reading_as}
use Rattle.sja_journal.specs.declared.entry.Entry.{Entry}
use Rattle.sja_journal.specs.declared.entry.Entry.TheVariants.{Bit}
use Rattle.can_levels.specs.BusLevel.{wired}
use Rattle.sja_bus.specs.declared.bus_node.BusNode.{BusNode}
use Rattle.sja_bus.specs.Inside.Refusing.{AreFree}
use Rattle.sja_bus.specs.Inside.Rows.{AreReady, AreTold, EachBusNode, driven_by}
use Rattle.sja_bus.specs.Inside.Turning.{IsQuietBit}

-- ---- quiet bits of all bus nodes

-- one bit of each, in which nothing happens: it sees the level that all drive together. Before it one isn't at rest,
-- where that was asked for
pub record IsQuietRow (to_rest : Bool) (bus_nodes after : List BusNode) : Type 0 where
  pub count : length after ≡ length bus_nodes
  pub ready : AreReady after
  pub rooms : EachBusNode (λ m old new. new.journal.room ≡ old.journal.room) bus_nodes after
  pub bits : EachBusNode (λ m old new. IsQuietBit (wired (driven_by bus_nodes)) old new) bus_nodes after
  pub works : to_rest ≡ true →
      (k : ℕ) × (k < length bus_nodes) × ((s : BusNode) → ShowsRest (slice_index_or bus_nodes k s).node false)

-- so many, one after the other
pub data AreQuietRows (to_rest : Bool) (bus_nodes : List BusNode) : ℕ → List BusNode → Type 0 where
  no_row : AreQuietRows to_rest bus_nodes 0 bus_nodes
  one_more : (mid after : List BusNode) (n : ℕ) → AreQuietRows to_rest bus_nodes n mid → IsQuietRow to_rest mid after →
      AreQuietRows to_rest bus_nodes (suc n) after

-- before so many bits are run together: the bus nodes are ready, no port is to be told anything, and each journal has
-- room for so many
pub record MayRunTogether (n : ℕ) (bus_nodes : List BusNode) : Type 0 where
  pub ready : AreReady bus_nodes
  pub told : AreTold bus_nodes
  pub free : AreFree n bus_nodes

-- so many bits of at most so many were run together: nothing happens in them
pub record RunsTogether (to_rest : Bool) (most : ℕ) (bus_nodes : List BusNode) (n : ℕ) (after : List BusNode) : Type 0
  where
    pub few : n ≤ most
    pub rows : AreQuietRows to_rest bus_nodes n after

-- ---- one sends, the others go on with it

-- for so many bits the others go on with this node
abbrev pub OthersGo : List BusNode → ℕ → ℕ → Node → Type 0
OthersGo bus_nodes lead n sender =
    (k : ℕ) (s : BusNode) → k < length bus_nodes → k ≢ lead → GoesWith sender n (slice_index_or bus_nodes k s).node

-- for so many bits the others go on with the node of this bus node
pub record IsLed (bus_nodes : List BusNode) (lead n : ℕ) : Type 0 where
  pub few : lead < length bus_nodes
  pub go : (s : BusNode) → OthersGo bus_nodes lead n (slice_index_or bus_nodes lead s).node

-- for so many bits all but these two go on with the first one
abbrev pub RestGoes : List BusNode → ℕ → ℕ → ℕ → Node → Type 0
RestGoes bus_nodes lead stray n sender =
    (k : ℕ) (s : BusNode) → k < length bus_nodes → k ≢ lead → k ≢ stray →
    GoesWith sender n (slice_index_or bus_nodes k s).node

-- the entries of a node that sent these levels, and of one that read them and drove recessive
abbrev pub sent_bits : List Level → List Entry
sent_bits levels = map (λ x. Bit x x) levels

abbrev pub read_bits : List Level → List Entry
read_bits levels = map (λ x. Bit Recessive x) levels

-- a bus node whose node sent these levels, is this one then, and drives this level next
abbrev pub after_sending : Node → Level → List Level → BusNode → BusNode
after_sending node next levels s = record s {
  node = node;
  drives = next;
  journal = record s.journal { entries = s.journal.entries ++ sent_bits levels };
}

-- a bus node whose node sent these levels already
pub record HasSent (levels : List Level) (old new : BusNode) : Type 0 where
  pub is : new ≡ after_sending old.node new.drives levels old
  pub drives : DrivesNext old.node new.drives

-- a bus node whose node read these levels and drove recessive, and is this one then
abbrev pub after_reading : Node → List Level → BusNode → BusNode
after_reading node levels s = record s {
  node = node;
  journal = record s.journal { entries = s.journal.entries ++ read_bits levels };
}

-- a bus node whose node goes on where this reader is: it sent these levels too, or read them
abbrev pub FollowsOn : Shift → List Level → BusNode → BusNode → Type 0
FollowsOn reader levels old new =
    (is_sending old.node ≡ true → HasSent levels (record old { node = following old.node reader }) new)
    × (is_sending old.node ≡ false → new ≡ after_reading (reading_as old.node reader) levels old)

-- that of each, where this one sent
abbrev pub BusNodeGoesOn : ℕ → Shift → List Level → ℕ → BusNode → BusNode → Type 0
BusNodeGoesOn lead reader levels m old new =
    (m ≡ lead → HasSent levels old new) × (m ≢ lead → FollowsOn reader levels old new)

-- the same, where one has a reader of its own
abbrev pub BusNodeGoesBeside : ℕ → ℕ → Shift → Shift → List Level → ℕ → BusNode → BusNode → Type 0
BusNodeGoesBeside lead stray reader beside levels m old new =
    (m ≡ stray → BusNodeGoesOn lead beside levels m old new) × (m ≢ stray → BusNodeGoesOn lead reader levels m old new)
