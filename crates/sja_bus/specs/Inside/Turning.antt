-- What the port of a controller is still to be told, and what it is told.
use Rattle.std.specs.Prelude.{◌≡◌, ◌≢◌, ◌⊎◌, ◌+◌, ◌<◌, ◌&&◌, not, Bool, true, false, None, List, [], ◌∷◌, ◌++◌, length}
use Rattle.can_levels.specs.declared.level.Level.{Level}
use Rattle.can_node_rules.specs.declared.bit_events.BitEvents.{BitEvents}
use Rattle.can_node_rules.specs.Context.{is_held}
use Rattle.can_node_rules.specs.NextBit.{now_in}
use Rattle.can_node.specs.Stands.{StandsAt, ShowsPhase, Samples, ShowsSame, is_receiving}
use Rattle.can_node_rules.specs.Outcomes.{nothing}
use Rattle.sja_journal.specs.NodeWords.{NodeEntry, FinishedPiece, IsCut}
use Rattle.sja_journal.specs.declared.entry.Entry.{Entry}
use Rattle.sja_journal.specs.declared.entry.Entry.TheVariants.{Bit}
use Rattle.sja_journal.specs.Records.{record_of}
use Rattle.sja_regs.specs.declared.bus_turn.BusTurn.{BusTurn}
use Rattle.sja_bus.specs.declared.bit_outcome.BitOutcome.{BitOutcome}
use Rattle.sja_bus.specs.declared.pending_event.PendingEvent.{PendingEvent}
use Rattle.sja_bus.specs.declared.pending_event.PendingEvent.TheVariants.{Nothing, Changed, Dropped}
use Rattle.sja_bus.specs.declared.bus_node.BusNode.{BusNode}
use Rattle.sja_journal.specs.BitEntries.{MayHaveItems, MayHaveAbort, MayHaveVerdict, HasBit}
use Rattle.sja_bus_rules.specs.Telling.{IsTurn, SaysAlone, is_overrun}
use Rattle.sja_bus.specs.Inside.Following.{open_in}
use Rattle.sja_bus.specs.UntilTold.{TellsNothing}

-- whether something is to be told, and whether it is that a request was dropped
abbrev pub is_untold : PendingEvent → Bool
is_untold Nothing = false
is_untold Changed = true
is_untold Dropped = true

abbrev pub is_dropped : PendingEvent → Bool
is_dropped Nothing = false
is_dropped Changed = false
is_dropped Dropped = true

-- nothing was taken, or something that is to be told
abbrev pub TakesUntold : BusNode → BusNode → Type 0
TakesUntold old new =
    ((new.untold ≡ old.untold) × (new.journal.entries ≡ old.journal.entries))
    ⊎ ((new.untold ≡ Changed) × (length old.journal.entries < length new.journal.entries))

-- by every cut of the journal's record: an abort that changed the node left no request
abbrev pub Drops : Bool → List Entry → Bool → Type 0
Drops changed j dropped = (found : List FinishedPiece) (cut : IsCut (record_of j) found) →
    dropped ≡ (changed && not (is_held (now_in cut).held))

-- an abort is to be told where it changed the node, and that the request was dropped where none is left
pub record AbortsUntold (old new : BusNode) : Type 0 where
  pub aborts : MayHaveAbort old.journal.entries new.journal.entries
  pub still : new.untold ≡ Nothing → (old.untold ≡ Nothing) × (new.journal.entries ≡ old.journal.entries)
  pub drops : old.untold ≢ Dropped → Drops aborts.changed new.journal.entries (is_dropped new.untold)

-- the same after items were taken
pub record OpensUntold (old new : BusNode) : Type 0 where
  pub taken : List Entry
  pub items : MayHaveItems old.journal.entries taken
  pub aborts : MayHaveAbort taken new.journal.entries
  pub still : new.untold ≡ Nothing → (old.untold ≡ Nothing) × (new.journal.entries ≡ old.journal.entries)
  pub drops : old.untold ≢ Dropped → Drops aborts.changed new.journal.entries (is_dropped new.untold)

-- the journal has a bit more with what the bit brought: whether the message found no room, and whether the node went
-- bus-off. There is no verdict where no frame was received
pub record BringsVerdict (j : List Entry) (driven seen : Level) (outcome : BitOutcome) (k : List Entry) : Type 0 where
  pub verdict : MayHaveVerdict j driven seen k
  pub overrun_is : outcome.overrun ≡ is_overrun verdict.verdict
  pub received : outcome.events.received ≡ None → verdict.verdict ≡ None

pub record Brings (j : List Entry) (driven seen : Level) (outcome : BitOutcome) (k : List Entry) : Type 0 where
  pub bit : HasBit j driven seen k
  pub off : outcome.events.went_off ≡ bit.off
  pub overrun : outcome.overrun ≡ is_overrun bit.verdict
  pub received : outcome.events.received ≡ None → bit.verdict ≡ None

-- one bit of a bus node with which nothing happened, and nothing was or is to be told
pub record IsQuietBit (seen : Level) (old new : BusNode) : Type 0 where
  pub untold : old.untold ≡ Nothing
  pub told : new.untold ≡ Nothing
  pub samples : Samples old.node new.node seen (nothing (is_receiving old.node))
  pub shows : ShowsSame old.node new.node
  pub whole : new.journal.entries ≡ old.journal.entries ++ Bit old.drives seen ∷ []

-- the turn says this of the bit that is over, and what the bus node shows after it
pub record TurnOf (s : BusNode) (events : BitEvents) (overrun : Bool) (turn : BusTurn) : Type 0 where
  pub activation : turn.activation ≡ s.ended + open_in s.activity
  pub events_are : turn.events ≡ events
  pub counters : (entries : List NodeEntry) (found : List FinishedPiece) (h : StandsAt s.node entries found) →
      (turn.txerr ≡ (now_in h.cut).tec) × (turn.rxerr ≡ (now_in h.cut).rec) × (turn.off ≡ (now_in h.cut).off)
  pub phase : ShowsPhase s.node turn.phase
  pub aborted : turn.aborted ≡ is_dropped s.untold
  pub overrun_is : turn.overrun ≡ overrun

-- a turn says what another one says, beside the events
pub record SaysAs (turn other : BusTurn) : Type 0 where
  pub activation : turn.activation ≡ other.activation
  pub receiving : turn.events.receiving ≡ other.events.receiving
  pub txerr : turn.txerr ≡ other.txerr
  pub rxerr : turn.rxerr ≡ other.rxerr
  pub off : turn.off ≡ other.off
  pub phase : turn.phase ≡ other.phase
  pub aborted : turn.aborted ≡ other.aborted
  pub overrun : turn.overrun ≡ other.overrun

-- what a port is told of a bit, by what stood before it: this turn, and where all was told already it isn't what stood;
-- or nothing, where all was told and it is
pub record TellsTurn {B : Type 0} (was_told : BusTurn → Type 0) (was now : B) (s : BusNode) (stands : BusTurn)
    (told : Bool) (turn : BusTurn) : Type 0 where
  pub yes : told ≡ true → was_told turn × (s.untold ≡ Nothing → turn ≢ stands)
  pub no : told ≡ false → (now ≡ was) × (s.untold ≡ Nothing) × (turn ≡ stands)

-- one bit of a bus node brought nothing: its journal has the bit more and nothing else
pub record IsIdleBit (seen : Level) (old new : BusNode) : Type 0 where
  pub tells : TellsNothing old.journal.entries old.drives seen
  pub whole : new.journal.entries ≡ old.journal.entries ++ Bit old.drives seen ∷ []

-- one bit of a bus node: its journal has the bit, and its port was told the turn of that bit or passed over; now
-- nothing is to be told
pub record Turns (was_told : BusTurn → Type 0) (was_kept : Type 0) (seen : Level) (old new : BusNode) : Type 0 where
  pub bit : HasBit old.journal.entries old.drives seen new.journal.entries
  pub turn : BusTurn
  pub is_turn : (changed : Bool) → Drops changed old.journal.entries (is_dropped old.untold) →
      IsTurn changed old.journal.entries old.drives seen new.journal.entries bit turn
  pub port : was_told turn ⊎ (was_kept × (old.untold ≡ Nothing) × SaysAlone old.journal.entries turn)
  pub told : new.untold ≡ Nothing
