use Rattle.sja_serial.proofs.serial_run.SerialRun.rest_turn.Given as goal

abbrev pub ghost-run_busy_bits : goal.ghost-run_busy_bits
ghost-run_busy_bits g a = g.setup
