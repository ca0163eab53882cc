-- A look at the interrupt line of a node of a session (the line: SJA1000 data sheet, 6.4.6; the look is this project's
-- own rule).
use Rattle.std.specs.Prelude.{◌≡◌, ◌+◌, ◌*◌, ◌<◌, ℕ, zero, suc, Bool, List, length, slice_index_or, if◌then◌else◌}
use Rattle.sja_bus_rules.specs.Wire.{journal_at}
use Rattle.sja_regs.specs.declared.registers.Registers.{Registers}
use Rattle.sja_regs.specs.InterruptLine.{is_line_active}
use Rattle.sja_regs.specs.Registers.{at_power_on}
use Rattle.sja_driver.specs.StepRuns.{StepRun, step_runs_at, acts_in}
use Rattle.sja_driver.specs.TypedActs.{TypedAct, is_active}
use Rattle.sja_driver.specs.LoggedDrivers.{kept_of}
use Rattle.sja_driver.specs.declared.logged_driver.LoggedDriver.{LoggedDriver}
use Rattle.sja_promises.specs.Registering.{seen_now}
use Rattle.sja_session.specs.Sessions.{SessionValue, IsAt, written}

-- whether the line of a node whose driver did these acts is active: by the registers of its port, and by the messages
-- that have come
abbrev pub line_by : SessionValue → ℕ → List TypedAct → Registers → Bool
line_by s node acts p = is_line_active (slice_index_or s.run.ports node p)
    (seen_now (is_active acts) (journal_at s.run.bus.journals node) acts)

-- the same at these steps
abbrev pub line_at : SessionValue → List (List StepRun) → ℕ → Bool
line_at s step_runs node = line_by s node (acts_in (step_runs_at step_runs node)) (at_power_on 1)

-- nothing happened that the bus, a port, a kept byte or the plan shows: no step was done, no bit was run, no port and
-- no journal changed, and the plan is the same. The driver may have taken in what its link showed, and no more
pub record IsStill (was now : SessionValue) (step_runs : List (List StepRun)) : Type 0 where
  pub at : IsAt now step_runs
  pub bus : now.run.bus ≡ was.run.bus
  pub bits : now.run.bits ≡ was.run.bits
  pub ports : now.run.ports ≡ was.run.ports
  pub kept : (m : ℕ) (d : LoggedDriver) → m < length was.steps →
      kept_of (slice_index_or now.run.drivers m d) ≡ kept_of (slice_index_or was.run.drivers m d)
  pub room : now.room ≡ was.room
  pub wrote : written now ≡ written was

-- the line is that of the node's port, by the messages that have come, and nothing happened
pub record Looks (was now : SessionValue) (node : ℕ) (line : Bool) (step_runs : List (List StepRun)) : Type 0 where
  pub is : (p : Registers) → line ≡ line_by was node (acts_in (step_runs_at step_runs node)) p
  pub still : IsStill was now step_runs

-- of so many nodes from this one on the lines, the first one's as the lowest bit
abbrev pub lines_from : (ℕ → Bool) → ℕ → ℕ → ℕ
lines_from line node zero = 0
lines_from line node (suc count) = (if line node then 1 else 0) + 2 * lines_from line (node + 1) count

-- bit K of the byte is 1 where the interrupt line of node K is active, and no other bit is
abbrev pub AreLines : SessionValue → List (List StepRun) → ℕ → Type 0
AreLines s step_runs byte = byte ≡ lines_from (line_at s step_runs) 0 (length s.plan.nodes)
