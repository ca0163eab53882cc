-- Bits that a session runs (this project's own rule).
use Rattle.std.specs.Prelude.{◌≡◌, ◌<◌, ◌≤◌, ◌⊎◌, ℕ, List}
use Rattle.sja_plan.specs.declared.turn.Turn.TheVariants.{Bus}
use Rattle.sja_driver.specs.StepRuns.{StepRun}
use Rattle.sja_serial.specs.Bits.{TakesBits}
use Rattle.sja_serial.specs.Serial.{all_acts}
use Rattle.sja_session.specs.Sessions.{SessionValue, HasEnd, IsAt, setup_by, written}
use Rattle.sja_session.specs.Stepping.{HasTurn, LacksTurn}
use Rattle.sja_session.specs.Writing.{with_bits_run}

-- ---- whether they may be run

-- bits are due: some are asked for, and some are left
abbrev pub AreDue : SessionValue → ℕ → Type 0
AreDue s count = (1 ≤ count) × (s.run.bits < s.plan.bits)

-- else: none is asked for, or none is left
abbrev pub AreNotDue : SessionValue → ℕ → Type 0
AreNotDue s count = (count < 1) ⊎ (s.plan.bits ≤ s.run.bits)

-- where bits are due there is a turn for them; no bits are no turn, and none is asked for
abbrev pub MayRun : SessionValue → ℕ → Type 0
MayRun s count = AreNotDue s count ⊎ HasTurn s (Bus count)

-- bits are due, and no turn is left for them
abbrev pub LacksBusTurn : SessionValue → ℕ → Type 0
LacksBusTurn s count = AreDue s count × LacksTurn s (Bus count)

-- ---- what comes of it

-- so many bits were run, of those that were asked for, and no step was done: all of them, or up to the last bit of the
-- plan. What holds of every bus holds after each of them (`TakesBit`), so that all nodes saw one wire, and entries and
-- steps lead from power-on to the registers of each port (`IsAt`)
pub record RunsBits (was now : SessionValue) (count run : ℕ) (step_runs : List (List StepRun)) : Type 0 where
  pub bits : TakesBits (setup_by was) (all_acts step_runs) (λ r. Unit {0}) was.run run now.run
  pub most : run ≤ count
  pub whole : (run ≡ count) ⊎ (now.run.bits ≡ was.plan.bits)
  pub at : IsAt now step_runs
  pub room : now.room ≡ was.room
  pub wrote : HasEnd was → written now ≡ with_bits_run (written was) run
  pub plan : now.plan ≡ was.plan
