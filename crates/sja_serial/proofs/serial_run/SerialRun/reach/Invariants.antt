use Rattle.sja_serial.proofs.serial_run.SerialRun.reach.Given as goal

abbrev pub ghost-bits_left : goal.ghost-bits_left
ghost-bits_left g a = g.setup
