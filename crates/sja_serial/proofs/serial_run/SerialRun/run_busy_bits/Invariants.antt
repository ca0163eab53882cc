use Rattle.sja_serial.proofs.serial_run.SerialRun.run_busy_bits.Given as goal

abbrev pub ghost-bits_left : goal.ghost-bits_left
ghost-bits_left g a = g.setup
