use Rattle.sja_serial.specs.Serial.{setup_in}
use Rattle.sja_serial.proofs.registers.run_registers.Given as goal

abbrev pub ghost-rows_of : goal.ghost-rows_of
ghost-rows_of a = setup_in a.run.now
