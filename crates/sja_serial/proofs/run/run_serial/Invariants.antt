use Rattle.sja_serial.specs.Serial.{setup_in}
use Rattle.sja_serial.proofs.run.run_serial.Given as goal

abbrev pub ghost-finish : goal.ghost-finish
ghost-finish a = setup_in a.self
