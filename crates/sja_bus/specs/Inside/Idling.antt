-- Controllers at rest, and bits in which they stay so.
use Rattle.std.specs.Prelude.{◌≡◌, ◌≢◌, ◌⊎◌, ◌≤◌, ◌<◌, ℕ, true, false, List, ◌++◌, length, map, slice_index_or}
use Rattle.can_levels.specs.declared.level.Level.TheVariants.{Recessive}
use Rattle.can_node.specs.Stands.{ShowsRest}
use Rattle.sja_link.specs.BusLedgers.{link_of}
use Rattle.sja_journal.specs.declared.bus_fault.BusFault.{BusFault}
use Rattle.sja_journal.specs.declared.bus_fault.BusFault.TheVariants.{JournalFull}
use Rattle.sja_bus.specs.declared.pending_event.PendingEvent.TheVariants.{Nothing}
use Rattle.sja_bus.specs.declared.bus_node.BusNode.{BusNode}
use Rattle.sja_bus.specs.Stretches.{recessive_bits}

-- the node is at rest and drives recessive, and nothing is to be told of it
pub record IsResting (s : BusNode) : Type 0 where
  pub none : s.untold ≡ Nothing
  pub drives : s.drives ≡ Recessive
  pub rests : ShowsRest s.node true

-- something is to be told of the node, or it isn't at rest
abbrev pub IsAwake : BusNode → Type 0
IsAwake s = (s.untold ≢ Nothing) ⊎ ShowsRest s.node false

-- each of them is at rest, with nothing to be told
abbrev pub AreResting : List BusNode → Type 0
AreResting bus_nodes = (k : ℕ) (s : BusNode) → k < length bus_nodes → IsResting (slice_index_or bus_nodes k s)

-- one of them isn't
abbrev pub IsOneAwake : List BusNode → Type 0
IsOneAwake bus_nodes = (k : ℕ) × (k < length bus_nodes) × ((s : BusNode) → IsAwake (slice_index_or bus_nodes k s))

-- a bus node after so many recessive bits that changed nothing but its journal, and all of them
abbrev pub after_bits : ℕ → BusNode → BusNode
after_bits count s = record s { journal = record s.journal { entries = s.journal.entries ++ recessive_bits count } }

abbrev pub all_after : ℕ → List BusNode → List BusNode
all_after count bus_nodes = map (λ s. after_bits count s) bus_nodes

-- with this fault a bus node's journal is full after fewer such bits
pub record IsFullAfter (count : ℕ) (old new : BusNode) (f : BusFault) : Type 0 where
  pub is : f ≡ JournalFull (link_of old.ledger).node
  pub entered : ℕ
  pub early : entered < count
  pub grown : new.journal.entries ≡ old.journal.entries ++ recessive_bits entered
  pub full : old.journal.room.all ≤ length new.journal.entries

-- the journal of one of them is
pub record IsFullBy (count : ℕ) (bus_nodes now : List BusNode) (f : BusFault) : Type 0 where
  pub node : ℕ
  pub few : node < length bus_nodes
  pub own : (s : BusNode) → (link_of (slice_index_or bus_nodes node s).ledger).node ≡ node
  pub after : (s : BusNode) → IsFullAfter count (slice_index_or bus_nodes node s) (slice_index_or now node s) f
