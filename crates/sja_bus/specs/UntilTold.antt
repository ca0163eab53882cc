-- Bits of a bus up to the first in which a port is told its turn (this project's own rule).
use Rattle.std.specs.Prelude.{◌≡◌, ◌+◌, ◌<◌, ◌≤◌, ℕ, Bool, true, false, List, [], ◌∷◌, ◌++◌, length}
use Rattle.can_levels.specs.declared.level.Level.{Level}
use Rattle.sja_journal.specs.declared.entry.Entry.{Entry}
use Rattle.sja_journal.specs.declared.entry.Entry.TheVariants.{Bit}
use Rattle.sja_link.specs.declared.bus_end.BusEnd.{Ghosts as Ends}
use Rattle.sja_regs.specs.declared.bus_turn.BusTurn.{BusTurn}
use Rattle.sja_regs.specs.declared.orders.Orders.{Orders}
use Rattle.sja_steps.specs.Striking.{Strikes}
use Rattle.sja_bus.specs.declared.board.Board.{Ghosts as Ports}
use Rattle.sja_bus_rules.specs.Buses.{BusValue, EachJournal, untold_at}
use Rattle.sja_bus.specs.Moment.{Moment, OneBit}
use Rattle.sja_bus_rules.specs.Reasons.{room_for}
use Rattle.sja_bus.specs.Several.{AllRest, AreBits, BreaksOff, WorksIf}
use Rattle.sja_journal.specs.declared.bus_fault.BusFault.{BusFault}
use Rattle.sja_journal.specs.BitEntries.{HasBit}
use Rattle.sja_bus_rules.specs.Telling.{IsTurn, SaysAlone}
use Rattle.sja_bus_rules.specs.Wire.{journal_at}

-- after this journal a bit with these levels brings nothing: no message is judged, the node doesn't go bus-off, and the
-- turn of the bit says what stands there before it, and nothing else
pub record TellsNothing (j : List Entry) (driven seen : Level) : Type 0 where
  pub bit : HasBit j driven seen (j ++ Bit driven seen ∷ [])
  pub turn : BusTurn
  pub is : IsTurn false j driven seen (j ++ Bit driven seen ∷ []) bit turn
  pub alone : SaysAlone j turn

-- a journal has bits more and nothing else, none of which brings anything: no item was taken and nothing aborted
pub data HasBitsMore (j : List Entry) : List Entry → Type 0 where
  none : HasBitsMore j j
  one_more : (k : List Entry) (driven seen : Level) → HasBitsMore j k → TellsNothing k driven seen →
      HasBitsMore j (k ++ Bit driven seen ∷ [])

-- since that moment no port was told anything: the ports are as they were, and each journal has more bits alone, which
-- brought nothing
pub record NoneTold {E B : Type 0} (was now : Moment E B) : Type 0 where
  pub board : now.board ≡ was.board
  pub journals : EachJournal HasBitsMore was.bus.journals now.bus.journals

-- some node works, where that is asked for, and no port was told anything since that moment
abbrev pub WorksUntold : {E B : Type 0} → Bool → Moment E B → Moment E B → Type 0
WorksUntold to_rest was m = WorksIf to_rest m × NoneTold was m

-- so many bits, before each of which that held: so no port is told its turn in any of them but the last
abbrev pub RunsUntilTold : {E B : Type 0} → Ends E → Ports B → Bool → Moment E B → ℕ → Moment E B → Type 0
RunsUntilTold e b to_rest was = AreBits (λ k. OneBit e b) (WorksUntold to_rest was) was

-- fewer than so many of these bits, and then one that didn't come to its end, with this fault
abbrev pub StopsUntilTold : {E B : Type 0} → Ends E → Ports B → Bool → ℕ → Moment E B → Moment E B → BusFault → Type 0
StopsUntilTold e b to_rest count was =
    BreaksOff e b.orders_are (λ k. OneBit e b) (WorksUntold to_rest was) count was

-- the turn is that of the last bit of this journal, as of one right before which no abort changed the node, and it says
-- more than what stood before the bit
pub record IsLastTurn (journal : List Entry) (turn : BusTurn) : Type 0 where
  pub before : List Entry
  pub driven : Level
  pub seen : Level
  pub bit : HasBit before driven seen journal
  pub is : IsTurn false before driven seen journal bit turn
  pub more : SaysAlone before turn → ⊥

-- why no bit more is run, of so many that were asked for, after n of them
pub data NoMore (to_rest : Bool) (count n : ℕ) (bus : BusValue) : Type 0 where
  -- they were all that were asked for
  all_run : n ≡ count → NoMore to_rest count n bus
  -- none is left
  spent : bus.left ≡ 0 → NoMore to_rest count n bus
  -- every node is at rest, and it was asked that some work
  rests : to_rest ≡ true → AllRest bus.journals → NoMore to_rest count n bus
  -- the script strikes one of eight nodes in the next bit
  struck : (node : ℕ) → node < 8 → Strikes bus.script bus.run node → NoMore to_rest count n bus
  -- the reserved entries of some node's journal are used
  full : (node : ℕ) → node < length bus.journals →
      (room_for (bus.run + bus.left) bus.steps node).all ≤ length (journal_at bus.journals node) →
      NoMore to_rest count n bus

-- why such bits ended with the last one of n, of so many that were asked for
pub data EndsUntilTold {E B : Type 0} (b : Ports B) (to_rest : Bool) (count : ℕ) (was : Moment E B) (n : ℕ)
    (now : Moment E B) : Type 0 where
  -- no bit more is run
  no_more : NoMore to_rest count n now.bus → EndsUntilTold b to_rest count was n now
  -- the port of some node was told the turn of that bit, which says more than what stood before it
  told : (node : ℕ) (turn : BusTurn) → node < length now.bus.journals → b.told was.board now.board node turn →
      IsLastTurn (journal_at now.bus.journals node) turn → EndsUntilTold b to_rest count was n now

-- nothing is untold of any node, and the port of each has orders that want no abort
pub record IsCalm (orders_are : ℕ → Orders → Type 0) (bus : BusValue) : Type 0 where
  pub told : (node : ℕ) → node < length bus.journals → untold_at bus.untold node ≡ false
  pub orders : (node : ℕ) → node < length bus.journals → (o : Orders) × orders_are node o × (o.abort ≡ false)

-- of each node the reserved entries of the journal are enough for the bits alone of so many
abbrev pub HasFree : ℕ → BusValue → Type 0
HasFree n bus = (node : ℕ) → node < length bus.journals →
    length (journal_at bus.journals node) + n ≤ (room_for (bus.run + bus.left) bus.steps node).all

-- why no such bit was run, of so many that were asked for
pub data RunsNone (orders_are : ℕ → Orders → Type 0) (to_rest : Bool) (count : ℕ) (bus : BusValue) : Type 0 where
  -- one of the reasons holds for which no bit more is run
  no_more : NoMore to_rest count 0 bus → RunsNone orders_are to_rest count bus
  -- something is untold of a node
  untold : (node : ℕ) → node < length bus.journals → untold_at bus.untold node ≡ true →
      RunsNone orders_are to_rest count bus
  -- the port of a node wants an abort
  aborts : (node : ℕ) (o : Orders) → node < length bus.journals → orders_are node o → o.abort ≡ true →
      RunsNone orders_are to_rest count bus
