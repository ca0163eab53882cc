use Rattle.std.proofs.Common.{◌-◌, Bool, List}
use Rattle.sja_driver.specs.StepRuns.{StepRun}
use Rattle.sja_serial.specs.Inside.Rounds.{TakesIrq}
use Rattle.sja_serial.specs.Serial.{SerialValue, StandsBy}
use Rattle.sja_serial.proofs.serial_run.SerialRun.irq_turn.Given as goal

-- whatever comes of the bits that are left, comes of all
abbrev pub invariant-loop : goal.invariant-loop
invariant-loop g l = (step_runs : List (List StepRun)) → StandsBy g.setup l.initial.self step_runs → record {
  by : StandsBy g.setup l.self step_runs;
  goes : (last : SerialValue) (whole : Bool) →
      TakesIrq g.setup step_runs l.node (l.count - l.counter) l.self last whole →
      TakesIrq g.setup step_runs l.node l.count l.initial.self last whole;
}

abbrev pub ghost-irq : goal.ghost-irq
ghost-irq g a = g.setup

abbrev pub ghost-bits_left : goal.ghost-bits_left
ghost-bits_left g a = g.setup

abbrev pub ghost-run_one_bit : goal.ghost-run_one_bit
ghost-run_one_bit g a = g.setup
