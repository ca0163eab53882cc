-- Bits of a bus that are run at once.
use Rattle.std.specs.Prelude.{◌≡◌, ◌≢◌, ◌+◌, ◌≤◌, ℕ, None, length}
use Rattle.sja_bus.specs.declared.board.Board.{Ghosts as Ports}
use Rattle.sja_bus_rules.specs.Buses.{BusValue, AllTold}
use Rattle.sja_bus.specs.Stretches.{IsStretch}

-- so many bits of a bus with these ports, at most this count, which went well. Where there are none the bus is as it
-- was; else they are a stretch, after which nothing is untold of any node
pub record RunsAtOnce {B : Type 0} (b : Ports B) (board : B) (count : ℕ) (was now : BusValue) (n : ℕ) : Type 0 where
  pub most : n ≤ count
  pub bits : (now.run ≡ was.run + n) × (now.left + n ≡ was.left)
  pub steps : now.steps ≡ was.steps
  pub none : n ≡ 0 → now ≡ was
  pub stretch : n ≢ 0 → IsStretch (b.orders_are board) (b.told board board) (b.kept board board)
      was.script was.run n was.untold was.journals now.journals
  pub told : n ≢ 0 → AllTold (length was.journals) now.untold
  pub right : now.fault ≡ None
