-- One bit of a controller, at its links and its port.
use Rattle.std.specs.Prelude.{◌≡◌, ◌≢◌, ℕ, Bool, true, false}
use Rattle.can_levels.specs.declared.level.Level.{Level}
use Rattle.sja_link.specs.declared.bus_end.BusEnd.{Ghosts as Ends}
use Rattle.sja_link.specs.BusLedgers.{link_of}
use Rattle.sja_link.specs.Moving.{Goes}
use Rattle.sja_journal.specs.declared.bus_fault.BusFault.{BusFault}
use Rattle.sja_bus_rules.specs.Reasons.{IsBrokenFor}
use Rattle.sja_bus.specs.declared.board.Board.{Ghosts as Ports}
use Rattle.sja_bus.specs.declared.bus_node.BusNode.{BusNode}
use Rattle.sja_bus.specs.Inside.AtLinks.{KeepsEnd}
use Rattle.sja_bus.specs.Inside.BusNodes.{IsReady}
use Rattle.sja_bus.specs.Inside.Turning.{IsIdleBit, Turns}
use Rattle.sja_bus.specs.UntilTold.{IsLastTurn}
use Rattle.sja_bus.specs.declared.pending_event.PendingEvent.TheVariants.{Nothing}
use Rattle.sja_regs.specs.declared.bus_turn.BusTurn.{BusTurn}

-- what it keeps, also where it broke off: of its end and the bus node what every call keeps, how many ports there are,
-- and each port but that of its node
pub record KeepsInBit {E B : Type 0} (e : Ends E) (b : Ports B) (old new : BusNode) (end after : E) (board now : B)
    : Type 0 where
  pub stays : KeepsEnd e.same old new end after
  pub ports : b.ports now ≡ b.ports board
  pub others : (k : ℕ) → k ≢ (link_of old.ledger).node → b.kept board now k

-- it went well: the bus node is ready for the next one, its links moved with its journal, and its port was told the
-- turn of the bit, or passed over. Where it was told, and all was told before, the turn says more than what stood
-- before the bit; else no port was told, and the bit brought nothing
pub record HadBit {E B : Type 0} (e : Ends E) (b : Ports B) (told : Bool) (seen : Level) (old new : BusNode)
    (end after : E) (board now : B) : Type 0 where
  pub ready : IsReady new
  pub goes : Goes e.same e.stands end after old.journal.entries new.journal.entries
  pub turns : Turns (b.told board now (link_of old.ledger).node) (b.kept board now (link_of old.ledger).node) seen old
      new
  pub yes : told ≡ true → old.untold ≡ Nothing →
      (turn : BusTurn) × b.told board now (link_of old.ledger).node turn × IsLastTurn new.journal.entries turn
  pub no : told ≡ false → (now ≡ board) × IsIdleBit seen old new

-- with this fault it broke off
abbrev pub BreaksInBit : {E : Type 0} → Ends E → BusNode → BusNode → E → BusFault → Type 0
BreaksInBit e old new end f = IsBrokenFor e (link_of old.ledger).node old.journal.room old.journal.entries
    new.journal.entries end f
