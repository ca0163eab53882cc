-- Bits that a session runs until every controller is at rest (this project's own rule).
use Rattle.std.specs.Prelude.{◌≡◌, ◌⊎◌, ℕ, Bool, true, false, List}
use Rattle.sja_driver.specs.StepRuns.{StepRun}
use Rattle.sja_serial.specs.Bits.{TakesBits, SomeWorks, AllRestIn}
use Rattle.sja_serial.specs.Serial.{all_acts}
use Rattle.sja_session.specs.Sessions.{SessionValue, HasEnd, IsAt, IsEndless, setup_by, written}
use Rattle.sja_session.specs.Writing.{with_bits_run}

-- so many bits were run, before each of which some node wasn't at rest, and no step was done. Then all nodes are at
-- rest, or some node isn't and the bits of the plan are spent; or, without an end, as many were run as a plan has at
-- most
pub record Rests (was now : SessionValue) (run : ℕ) (rests : Bool) (step_runs : List (List StepRun)) : Type 0 where
  pub bits : TakesBits (setup_by was) (all_acts step_runs) (SomeWorks (setup_by was)) was.run run now.run
  pub whole : rests ≡ true → AllRestIn (setup_by was) now.run
  pub spent : rests ≡ false → SomeWorks (setup_by was) now.run
      × ((now.run.bits ≡ was.plan.bits) ⊎ (IsEndless was × (run ≡ 2000000)))
  pub at : IsAt now step_runs
  pub room : now.room ≡ was.room
  pub wrote : HasEnd was → written now ≡ with_bits_run (written was) run
  pub plan : now.plan ≡ was.plan
