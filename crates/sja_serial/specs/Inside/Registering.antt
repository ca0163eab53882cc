-- The rows of one node more (this project's own rule).
use Rattle.std.specs.Prelude.{◌≡◌, ◌++◌, ◌<◌, ℕ, List, length, slice_index_or}
use Rattle.sja_regs.specs.Registers.{at_power_on}
use Rattle.sja_driver.specs.StepRuns.{StepRun}
use Rattle.sja_driver.specs.declared.logged_driver.LoggedDriver.{LoggedDriver}
use Rattle.sja_driver.specs.LoggedDrivers.{kept_of}
use Rattle.sja_log.specs.declared.register_row.RegisterRow.{RegisterRow}
use Rattle.sja_serial.specs.Registers.{kept_in, node_rows, seen_at}
use Rattle.sja_serial.specs.Serial.{Setup, SerialValue, StandsBy, all_acts}

-- to a read of its registers a run is as it was
pub record ReadsAlike (was now : SerialValue) : Type 0 where
  pub bus : now.bus ≡ was.bus
  pub ports : now.ports ≡ was.ports
  pub kept : (m : ℕ) (d : LoggedDriver) → m < length was.drivers →
      kept_of (slice_index_or now.drivers m d) ≡ kept_of (slice_index_or was.drivers m d)

-- the rows of this node came to these, and the run reads as it did
pub record AddsNode (setup : Setup) (step_runs : List (List StepRun)) (rows_was rows_now : List RegisterRow)
    (was now : SerialValue) (node : ℕ) : Type 0 where
  pub by : StandsBy setup now step_runs
  pub alike : ReadsAlike was now
  pub rows : rows_now ≡ rows_was
      ++ node_rows node (slice_index_or was.ports node (at_power_on 1)) (kept_in was node)
      (seen_at was (all_acts step_runs) node)
