-- Bits of a run in one thread up to the first that a port is told of, as `bits_until_told` runs them (this project's
-- own rule).
use Rattle.std.specs.Prelude.{◌≡◌, ◌≢◌, ◌+◌, ◌<◌, ◌≤◌, ℕ, List}
use Rattle.sja_steps.specs.Striking.{Strikes}
use Rattle.sja_bus.specs.Boards.{HasOrders}
use Rattle.sja_bus.specs.UntilTold.{IsCalm}
use Rattle.sja_driver.specs.TypedActs.{TypedAct}
use Rattle.sja_serial.specs.Serial.{Setup, SerialValue}
use Rattle.sja_serial.specs.UntilTold.{EndsUntilTold, TakesUntilTold}

-- a round of at most so many bits has so many: at least one, where one is asked for and left, and of several none is
-- struck, and nothing stood in the way before them
pub record IsRound (setup : Setup) (acts : List (List TypedAct)) (was : SerialValue) (count n : ℕ) (now : SerialValue) :
    Type 0 where
  pub most : n ≤ count
  pub some : 1 ≤ count → was.bits < setup.bits → 1 ≤ n
  pub unstruck : 2 ≤ n → (i node : ℕ) → i < n → node < 8 → Strikes was.bus.script (was.bus.run + i) node → ⊥
  pub calm : 2 ≤ n → IsCalm (HasOrders was.ports) was.bus
  pub bits : TakesUntilTold setup acts was n now
  pub longest : n ≢ 0 → EndsUntilTold count was n now
