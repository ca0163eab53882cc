use Rattle.std.proofs.Common.{◌≡◌, ℕ, [], length, map, replicate, subst}
use Rattle.std.specs.Prelude.{IfOk}
use Rattle.sja_journal.specs.Sizes.{most_activations}
use Rattle.sja_driver.specs.StepRuns.{most_acts}
use Rattle.sja_bus_rules.specs.Buses.{new_bus}
use Rattle.sja_serial.specs.Serial.{StandsBy, setup_with}
use Rattle.sja_serial.proofs.serial_run.SerialRun.new.Goals as goal

pub returns-clause-stands : goal.returns-clause-stands
returns-clause-stands c =
    let steps = c.args.steps.items in
    subst (λ (v : ℕ). IfOk c.made.result (λ r. StandsBy (setup_with v c.args.bits c.args.script steps) r
    (replicate (length steps) []))) c.min.ensures c.made.ensures.stands

pub returns-clause-bus : goal.returns-clause-bus
returns-clause-bus c =
    let steps = c.args.steps.items in
    subst (λ (v : ℕ). IfOk c.made.result (λ r. r.bus ≡ new_bus c.args.script c.args.bits (length steps)
    (most_activations v) (map (most_acts v) steps))) c.min.ensures c.made.ensures.bus
