-- All controllers of a bus, one at each place of a list.
use Rattle.std.specs.Prelude.{◌≡◌, ◌≢◌, ◌<◌, ◌≤◌, ◌==◌, ℕ, suc, Bool}
use Rattle.std.specs.Prelude.{if◌then◌else◌, List, length, map, slice_index_or}
use Rattle.std.specs.Int.{bit_at}
use Rattle.can_levels.specs.declared.level.Level.{Level}
use Rattle.can_levels.specs.Digits.{opposite}
use Rattle.sja_journal.specs.declared.entry.Entry.{Entry}
use Rattle.sja_journal.specs.Lists.{Lists}
use Rattle.sja_journal.specs.Accounts.{Account}
use Rattle.sja_link.specs.BusLedgers.{link_of}
use Rattle.lemmas.specs.Related.{EachRelated}
use Rattle.sja_regs.specs.declared.orders.Orders.{Orders}
use Rattle.sja_regs.specs.declared.bus_turn.BusTurn.{BusTurn}
use Rattle.sja_steps.specs.declared.strike.Strike.{Strike}
use Rattle.sja_bus.specs.declared.struck_nodes.StruckNodes.{StruckNodes}
use Rattle.sja_bus.specs.declared.pending_event.PendingEvent.TheVariants.{Nothing, Dropped}
use Rattle.sja_bus.specs.declared.bus_node.BusNode.{BusNode}
use Rattle.sja_bus.specs.UntilTold.{HasBitsMore}
use Rattle.sja_bus_rules.specs.Wire.{IsWired}
use Rattle.sja_journal.specs.Links.{Kept, Grows, AreEnds}
use Rattle.sja_journal.specs.Opening.{BeginsWithin, begun_in}
use Rattle.sja_bus_rules.specs.Opens.{Opens}
use Rattle.sja_journal.specs.BitEntries.{MayHaveItems}
use Rattle.sja_bus.specs.Inside.BusNodes.{IsReady}
use Rattle.sja_bus.specs.Inside.Turning.{is_untold, TakesUntold, OpensUntold, Turns}

-- a bus node is ready, and is of its node
pub record IsOf (s : BusNode) (node : ℕ) : Type 0 where
  pub ready : IsReady s
  pub own : (link_of s.ledger).node ≡ node

abbrev pub AreReady : List BusNode → Type 0
AreReady bus_nodes = (k : ℕ) (s : BusNode) → k < length bus_nodes → IsOf (slice_index_or bus_nodes k s) k

-- at most eight bus nodes are ready, with an end of the links of each, and of n ports there is one for each
pub record AreOnBus {E : Type 0} (node_of : E → ℕ) (bus_nodes : List BusNode) (links : List E) (n : ℕ) : Type 0 where
  pub few : length bus_nodes ≤ 8
  pub ends : AreEnds node_of (length bus_nodes) links
  pub ready : AreReady bus_nodes
  pub ports : length bus_nodes ≤ n

-- the journals of all nodes, whose ports are still to be told something, and the levels that they drive next
abbrev pub journals_of : List BusNode → List (List Entry)
journals_of bus_nodes = map (λ s. s.journal.entries) bus_nodes

abbrev pub untold_of : List BusNode → List Bool
untold_of bus_nodes = map (λ s. is_untold s.untold) bus_nodes

abbrev pub driven_by : List BusNode → List Level
driven_by bus_nodes = map (λ s. s.drives) bus_nodes

-- each bus node is so related to what it was
abbrev pub EachBusNode : (ℕ → BusNode → BusNode → Type 0) → List BusNode → List BusNode → Type 0
EachBusNode R before after =
    (m : ℕ) (s : BusNode) → m < length before → R m (slice_index_or before m s) (slice_index_or after m s)

-- each before this place is so related to what it was, and the others are as they were
abbrev pub Done : (ℕ → BusNode → BusNode → Type 0) → ℕ → List BusNode → List BusNode → Type 0
Done R k before after =
    (m : ℕ) (s : BusNode) → m < length before →
    ((m < k) → R m (slice_index_or before m s) (slice_index_or after m s))
    × ((k ≤ m) → slice_index_or after m s ≡ slice_index_or before m s)

abbrev pub BusNodeTakes : ℕ → BusNode → BusNode → Type 0
BusNodeTakes m old new = MayHaveItems old.journal.entries new.journal.entries

abbrev pub BusNodeOpens : (ℕ → Orders → Type 0) → ℕ → BusNode → BusNode → Type 0
BusNodeOpens orders_are m old new = Opens (orders_are m) old.journal.entries new.journal.entries

-- no activation of a bus node began whose link its end, the one at its place, doesn't have
abbrev pub BusNodeBegins : {E : Type 0} → (E → ℕ) → List E → ℕ → BusNode → BusNode → Type 0
BusNodeBegins {E} links_of links m old new =
    (d : E) → BeginsWithin (links_of (slice_index_or links m d)) old.journal.entries new.journal.entries

-- the journal of a bus node has bits more and nothing else
abbrev pub BusNodeHasBits : ℕ → BusNode → BusNode → Type 0
BusNodeHasBits m old new = HasBitsMore old.journal.entries new.journal.entries

-- what is to be told of each
abbrev pub BusNodeUntold : ℕ → BusNode → BusNode → Type 0
BusNodeUntold m old new = TakesUntold old new

abbrev pub BusNodeOpensUntold : ℕ → BusNode → BusNode → Type 0
BusNodeOpensUntold m old new = OpensUntold old new

-- what a node sees of this level, where these nodes are struck
abbrev pub seen_by : StruckNodes → Level → ℕ → Level
seen_by struck level node = if bit_at struck.mask node == 1 then opposite level else level

abbrev pub BusNodeTurns : (ℕ → BusTurn → Type 0) → (ℕ → Type 0) → StruckNodes → Level → ℕ → BusNode → BusNode → Type 0
BusNodeTurns was_told was_kept struck level m old new = Turns (was_told m) (was_kept m) (seen_by struck level m) old new

-- the links of each node moved with its journal, whatever its driver got and gave
pub record GoesAll {E : Type 0} (same : E → E → Type 0) (stands : E → ℕ → Lists →
    Type 0) (bus_nodes after : List BusNode)
    (links links_after : List E) : Type 0 where
  pub sames : EachRelated same links links_after
  pub kept : (k : ℕ) (s : BusNode) (d : E) (h : ℕ → Account) → k < length bus_nodes →
      Kept stands (slice_index_or bus_nodes k s).journal.entries (slice_index_or links k d) h →
      Kept stands (slice_index_or after k s).journal.entries (slice_index_or links_after k d) h
  pub grows : (k : ℕ) (s : BusNode) → k < length bus_nodes →
      Grows (slice_index_or bus_nodes k s).journal.entries (slice_index_or after k s).journal.entries

-- the link that each bus node reads shows nothing
abbrev pub AllRead : {E : Type 0} → (E → ℕ → Type 0) → List BusNode → List E → Type 0
AllRead {E} dry bus_nodes links =
    (k : ℕ) (s : BusNode) (d : E) → k < length bus_nodes →
    dry (slice_index_or links k d) (suc (slice_index_or bus_nodes k s).ended)

-- no port is to be told anything
abbrev pub AreTold : List BusNode → Type 0
AreTold bus_nodes = (k : ℕ) (s : BusNode) → k < length bus_nodes → (slice_index_or bus_nodes k s).untold ≡ Nothing

-- no request was dropped since the last bit
abbrev pub AreCalm : List BusNode → Type 0
AreCalm bus_nodes = (k : ℕ) (s : BusNode) → k < length bus_nodes → (slice_index_or bus_nodes k s).untold ≢ Dropped

-- of each no more activations have begun than there are links for
abbrev pub AreBegun : ℕ → List BusNode → Type 0
AreBegun starts bus_nodes =
    (k : ℕ) (s : BusNode) → k < length bus_nodes → begun_in (slice_index_or bus_nodes k s).journal.entries ≤ starts

-- the bus nodes are ready, and their journals are of one wire
pub record IsBus (script : List Strike) (bits : ℕ) (bus_nodes : List BusNode) : Type 0 where
  pub ready : AreReady bus_nodes
  pub calm : AreCalm bus_nodes
  pub wired : IsWired script bits (journals_of bus_nodes)
