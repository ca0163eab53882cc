-- What the bus of a run in threads had taken between two bits (this project's own rule).
use Rattle.std.specs.Prelude.{◌≡◌, ◌<◌, ℕ, suc, List, length, slice_index_or}
use Rattle.lemmas.specs.Related.{EachRelated}
use Rattle.sja_journal.specs.declared.entry.Entry.{Entry}
use Rattle.sja_journal.specs.Accounts.{Account}
use Rattle.sja_journal.specs.Carried.{bits_of}
use Rattle.sja_journal.specs.Links.{Grows, Kept}
use Rattle.sja_rings.specs.declared.node_bus.NodeBus.{NodeBus}
use Rattle.sja_rings.specs.declared.ring_bus.RingBus.{RingBus}
use Rattle.sja_rings.specs.Ends.{link_of_bus}
use Rattle.sja_rings.specs.NodeRings.{node_of_bus, rings_of_bus, NodeBusLists, SameNodeBus, ShowsNothingUp}
use Rattle.sja_plan.specs.Plan.{PlanValue}
use Rattle.sja_bus_rules.specs.Buses.{AllDry}
use Rattle.sja_bus_rules.specs.Wire.{journal_at}

-- the bus's end of the links of a node: of its first 64 activations in order, and of no others
pub record IsBusEnd (node : ℕ) (b : NodeBus) : Type 0 where
  pub own : node_of_bus b ≡ node
  pub count : length (rings_of_bus b) ≡ 64
  pub links : (a : ℕ) (x : RingBus) → a < 64 →
      link_of_bus (slice_index_or (rings_of_bus b) a x) ≡ record { node = node; activation = suc a }

-- one for each of so many nodes, in order
pub record AreBusEnds (nodes : ℕ) (links : List NodeBus) : Type 0 where
  pub count : length links ≡ nodes
  pub each : (node : ℕ) (b : NodeBus) → node < nodes → IsBusEnd node (slice_index_or links node b)

-- the bus's ends of the links of a run of this plan stand for these journals, whatever the drivers got and gave
pub record StandFor (plan : PlanValue) (journals : List (List Entry)) (links : List NodeBus) : Type 0 where
  pub ends : AreBusEnds (length plan.nodes) links
  pub kept : (node : ℕ) (b : NodeBus) (h : ℕ → Account) → node < length plan.nodes →
      Kept NodeBusLists (journal_at journals node) (slice_index_or links node b) h

-- a moment of a run of this plan, whose bus has these ends of its links, after so many bits: a front of each journal
-- with just so many bits, and the ends then. They stand for these fronts, and the link that is read of each node shows
-- nothing that wasn't taken
pub record Gathered (plan : PlanValue) (ends : List NodeBus) (bits : ℕ) (journals : List (List Entry)) : Type 0 where
  pub fronts : List (List Entry)
  pub links : List NodeBus
  pub count : length fronts ≡ length journals
  pub are : (node : ℕ) → node < length journals → Grows (journal_at fronts node) (journal_at journals node)
  pub many : (node : ℕ) → node < length journals → length (bits_of (journal_at fronts node)) ≡ bits
  pub sames : EachRelated SameNodeBus ends links
  pub stand : StandFor plan fronts links
  pub dry : AllDry ShowsNothingUp fronts links
