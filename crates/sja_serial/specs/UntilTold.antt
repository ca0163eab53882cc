-- Bits of a run in one thread up to the first in which a port is told its turn (this project's own rule).
use Rattle.std.specs.Prelude.{◌≡◌, ◌<◌, ℕ, false, List, length}
use Rattle.sja_bus.specs.Boards.{HasOrders, WasTold}
use Rattle.sja_bus_rules.specs.Buses.{EachJournal}
use Rattle.sja_bus_rules.specs.Wire.{journal_at}
use Rattle.sja_bus.specs.UntilTold.{HasBitsMore, IsLastTurn, NoMore, RunsNone}
use Rattle.sja_driver.specs.TypedActs.{TypedAct}
use Rattle.sja_regs.specs.declared.bus_turn.BusTurn.{BusTurn}
use Rattle.sja_serial.specs.Bits.{TakesBits}
use Rattle.sja_serial.specs.Serial.{Setup, SerialValue}

-- since then no port was told anything: the ports are as they were, and each journal has more bits alone, which brought
-- nothing
pub record NoneTold (was now : SerialValue) : Type 0 where
  pub ports : now.ports ≡ was.ports
  pub journals : EachJournal HasBitsMore was.bus.journals now.bus.journals

-- so many bits, before each of which no port was told anything: so none is told its turn in any of them but the last
abbrev pub TakesUntilTold : Setup → List (List TypedAct) → SerialValue → ℕ → SerialValue → Type 0
TakesUntilTold setup acts was = TakesBits setup acts (NoneTold was) was

-- why these bits ended with the last one of n, of so many that were asked for
pub data EndsUntilTold (count : ℕ) (was : SerialValue) (n : ℕ) (now : SerialValue) : Type 0 where
  -- no bit more is run
  no_more : NoMore false count n now.bus → EndsUntilTold count was n now
  -- the port of some node was told the turn of that bit, which says more than what stood before it
  told : (node : ℕ) (turn : BusTurn) → node < length now.bus.journals → WasTold was.ports now.ports node turn →
      IsLastTurn (journal_at now.bus.journals node) turn → EndsUntilTold count was n now
  -- it is one bit alone, before which something stood in the way of more
  alone : n ≡ 1 → RunsNone (HasOrders was.ports) false count was.bus → EndsUntilTold count was n now
