-- Bits in which the bus takes nothing and aborts nothing.
use Rattle.std.specs.Prelude.{◌≡◌, ◌⊎◌, ◌+◌, ◌-◌, ◌<◌, ◌≤◌, ℕ, suc, true, false, Bool, None, Some, List, length}
use Rattle.std.specs.Prelude.{slice_index_or}
use Rattle.sja_link.specs.declared.bus_end.BusEnd.{Ghosts as Ends}
use Rattle.can_node.specs.Stands.{ShowsRest}
use Rattle.sja_regs.specs.declared.bus_turn.BusTurn.{BusTurn}
use Rattle.sja_regs.specs.declared.orders.Orders.{Orders}
use Rattle.sja_steps.specs.declared.strike.Strike.{Strike}
use Rattle.sja_steps.specs.Striking.{Strikes}
use Rattle.sja_bus.specs.declared.board.Board.{Ghosts as Ports}
use Rattle.sja_bus.specs.declared.broken_bit.BrokenBit.{BrokenBit}
use Rattle.sja_journal.specs.Written.{Room}
use Rattle.sja_journal.specs.declared.bus_fault.BusFault.{BusFault}
use Rattle.sja_bus.specs.declared.bus_node.BusNode.{BusNode}
use Rattle.sja_bus.specs.declared.struck_nodes.StruckNodes.{StruckNodes}
use Rattle.sja_bus_rules.specs.Buses.{BusValue}
use Rattle.sja_journal.specs.Links.{AreEnds, HaveLinks}
use Rattle.sja_bus_rules.specs.Reasons.{room_for}
use Rattle.sja_bus.specs.Moment.{Moment, Keeps, OneBit}
use Rattle.sja_bus.specs.Several.{AreBits, BreaksOff}
use Rattle.sja_bus.specs.UntilTold.{IsLastTurn, WorksUntold}
use Rattle.sja_bus.specs.Inside.Refusing.{AreFree, HaveRoom}
use Rattle.sja_bus.specs.Inside.Turning.{IsIdleBit, is_untold}
use Rattle.sja_bus.specs.Inside.Rows.{AreBegun, AreTold, EachBusNode, IsBus, BusNodeHasBits, journals_of, seen_by}
use Rattle.sja_bus.specs.Inside.Rows.{untold_of}
use Rattle.sja_bus.specs.declared.pending_event.PendingEvent.TheVariants.{Nothing}
use Rattle.can_levels.specs.declared.level.Level.{Level}

-- each of so many ports has orders, and they want no abort
abbrev pub NoneAborts : (ℕ → Orders → Type 0) → ℕ → Type 0
NoneAborts orders_are nodes = (node : ℕ) → node < nodes → (o : Orders) × orders_are node o × (o.abort ≡ false)

-- some port of so many has orders that want one
abbrev pub SomeAborts : (ℕ → Orders → Type 0) → ℕ → Type 0
SomeAborts orders_are nodes = (node : ℕ) × (o : Orders) × (node < nodes) × orders_are node o × (o.abort ≡ true)

-- some port is to be told something
abbrev pub SomeUntold : List BusNode → Type 0
SomeUntold bus_nodes = (k : ℕ) × (k < length bus_nodes) × ((s : BusNode) →
    is_untold (slice_index_or bus_nodes k s).untold ≡ true)

-- the port of one of these nodes was told the turn of the last bit in its journal
pub record SomeTold (was_told : ℕ → BusTurn → Type 0) (bus_nodes : List BusNode) : Type 0 where
  pub node : ℕ
  pub turn : BusTurn
  pub few : node < length bus_nodes
  pub told : was_told node turn
  pub last : (s : BusNode) → IsLastTurn (slice_index_or bus_nodes node s).journal.entries turn

-- from this node on all ports are told all
abbrev pub AreToldFrom : ℕ → List BusNode → Type 0
AreToldFrom first bus_nodes =
    (k : ℕ) (s : BusNode) → first ≤ k → k < length bus_nodes → (slice_index_or bus_nodes k s).untold ≡ Nothing

-- a node had a bit, at this level, that brought nothing
abbrev pub BusNodeIdle : StruckNodes → Level → ℕ → BusNode → BusNode → Type 0
BusNodeIdle struck level m old new = IsIdleBit (seen_by struck level m) old new

-- and each from this one on
abbrev pub AreIdleFrom : ℕ → StruckNodes → Level → List BusNode → List BusNode → Type 0
AreIdleFrom first struck level bus_nodes after = (k : ℕ) (s : BusNode) → first ≤ k → k < length bus_nodes →
    BusNodeIdle struck level k (slice_index_or bus_nodes k s) (slice_index_or after k s)

-- no port was told anything of a bit of these nodes: the ports are as they were, and each journal has bits alone more,
-- and room for one entry less than it had
pub record TellsNone {B : Type 0} (bus_nodes after : List BusNode) (was now : B) : Type 0 where
  pub still : now ≡ was
  pub bits : EachBusNode BusNodeHasBits bus_nodes after
  pub free : (n : ℕ) → AreFree (suc n) bus_nodes → AreFree n after

-- each of these nodes is at rest
abbrev pub AllAtRest : List BusNode → Type 0
AllAtRest bus_nodes = (k : ℕ) (s : BusNode) → k < length bus_nodes → ShowsRest (slice_index_or bus_nodes k s).node true

-- some journal has no room for more than so many further entries
abbrev pub SomeFull : ℕ → List BusNode → Type 0
SomeFull n bus_nodes = (k : ℕ) × (k < length bus_nodes) × ((s : BusNode) →
    (slice_index_or bus_nodes k s).journal.room.all - length (slice_index_or bus_nodes k s).journal.entries ≤ n)

-- the ports of these bus nodes want no abort, are told all, and have the facts of a port
pub record MayRunOn {B : Type 0} (b : Ports B) (board : B) (bus_nodes : List BusNode) : Type 0 where
  pub orders : NoneAborts (b.orders_are board) (length bus_nodes)
  pub told : AreTold bus_nodes
  pub facts : (k : ℕ) → k < length bus_nodes → b.facts board k

-- what a contract sees of a bus with these bus nodes and without a fault
abbrev pub bus_of : List Strike → ℕ → List ℕ → ℕ → ℕ → List BusNode → BusValue
bus_of script starts steps run left bus_nodes =
    record {
      script = script;
      starts = starts;
      steps = steps;
      run = run;
      left = left;
      fault = None;
      journals = journals_of bus_nodes;
      untold = untold_of bus_nodes;
    }

-- the same with its links and its ports
abbrev pub moment_of : {E B : Type 0} → List Strike → ℕ → List ℕ → ℕ → ℕ → List BusNode → List E → B → Moment E B
moment_of script starts steps run left bus_nodes links board =
    record { bus = bus_of script starts steps run left bus_nodes; links = links; board = board }

-- a bit of whatever number, of which it isn't asked what was taken before it
abbrev pub AnyBit : {E B : Type 0} → Ends E → Ports B → ℕ → Moment E B → Moment E B → Type 0
AnyBit e b n = OneBit e b

-- why none of so many bits is run from this one on: none was asked for; or a journal is full; or the script strikes one
-- of eight nodes in this bit; or each node is at rest, and it was asked that some work
abbrev pub RowsRunNone : Bool → List Strike → ℕ → ℕ → List BusNode → Type 0
RowsRunNone to_rest script from most bus_nodes = (most ≡ 0) ⊎ SomeFull 0 bus_nodes
    ⊎ ((node : ℕ) × (node < 8) × Strikes script from node) ⊎ ((to_rest ≡ true) × AllAtRest bus_nodes)

-- each journal had room for n of so many, and why no more were run: what stands against the next one, or a port was
-- told in the last one; and where none was run, what stood against the first
pub record RowsEnd (was_told : ℕ → BusTurn → Type 0) (to_rest : Bool) (script : List Strike) (from most : ℕ)
    (was now : List BusNode) (n : ℕ) : Type 0 where
  pub free : AreFree n was
  pub none : n ≡ 0 → RowsRunNone to_rest script from most was
  pub why : RowsRunNone to_rest script (from + n) (most - n) now ⊎ SomeTold was_told now

-- so many of these bits, whatever the room for steps is, for however many activations there are links, and however many
-- bits are left, where these are enough; and the bus after them: each journal has the room that it had, no activation
-- began beyond the links, and in none of the bits the script strikes one of eight nodes
pub record RowsRun {E B : Type 0} (e : Ends E) (b : Ports B) (to_rest : Bool) (script : List Strike) (from most : ℕ)
    (was now : List BusNode) (links after : List E) (board told : B) (n : ℕ) : Type 0 where
  pub bus : IsBus script (from + n) now
  pub begun : (starts : ℕ) → AreBegun starts was → AreBegun starts now
  pub rooms : (room : ℕ → Room) → HaveRoom room was → HaveRoom room now
  pub unstruck : (i node : ℕ) → i < n → node < 8 → Strikes script (from + i) node → ⊥
  pub bits : (starts : ℕ) (steps : List ℕ) (left : ℕ) → AreBegun starts was → most ≤ left →
      AreBits (AnyBit e b) (WorksUntold to_rest (moment_of script starts steps from left was links board))
      (moment_of script starts steps from left was links board) n
      (moment_of script starts steps (from + n) (left - n) now after told)

-- fewer than so many, and then one that broke off: so for every bus that counts just the bits before it
abbrev pub RowsStop : {E B : Type 0} → Ends E → Ports B → Bool → List Strike → ℕ → ℕ → List BusNode → List BusNode →
    List E →
    List E → B → B → BrokenBit → Type 0
RowsStop e b to_rest script from most was now links after board told f =
    (starts : ℕ) (steps : List ℕ) (left : ℕ) (bus : BusValue) → AreBegun starts was → HaveLinks e.links starts links →
    most ≤ left → HaveRoom (room_for (from + left) steps) was → bus.journals ≡ journals_of now →
    bus.run ≡ from + f.after → bus.left ≡ left - f.after →
    BreaksOff e b.orders_are (AnyBit e b)
    (WorksUntold to_rest (moment_of script starts steps from left was links board)) most
    (moment_of script starts steps from left was links board) (record { bus = bus; links = after; board = told })
    f.fault

-- ---- by the bus

-- ends, each with links for so many activations, and ports for so many nodes
pub record AreFor {E : Type 0} (e : Ends E) (links : List E) (nodes starts boards : ℕ) : Type 0 where
  pub ends : AreEnds e.node nodes links
  pub many : HaveLinks e.links starts links
  pub ports : nodes ≤ boards

-- a bus without a fault, of which so many bits are left, with links and ports for its nodes
pub record MayRunBits {E : Type 0} (e : Ends E) (bus : BusValue) (links : List E) (boards n : ℕ) : Type 0 where
  pub fit : AreFor e links (length bus.journals) bus.starts boards
  pub right : bus.fault ≡ None
  pub most : n ≤ bus.left

-- so many such bits, before each of which this held, and which went well
pub record IsSoFar {E B : Type 0} (e : Ends E) (b : Ports B) (One : ℕ → Moment E B → Moment E B → Type 0)
    (Before : Moment E B → Type 0) (was : Moment E B) (n : ℕ) (now : Moment E B) : Type 0 where
  pub keeps : Keeps e b was now
  pub left : now.bus.left + n ≡ was.bus.left
  pub right : now.bus.fault ≡ None
  pub bits : AreBits One Before was n now

-- fewer than so many bits, and then one that didn't come to its end
pub record IsStopped {E B : Type 0} (e : Ends E) (b : Ports B) (Before : Moment E B → Type 0) (count : ℕ)
    (was now : Moment E B) (f : BusFault) : Type 0 where
  pub keeps : Keeps e b was now
  pub fault : now.bus.fault ≡ Some f
  pub reason : BreaksOff e b.orders_are (AnyBit e b) Before count was now f
