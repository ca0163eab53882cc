use Rattle.sja_serial.proofs.serial_run.SerialRun.bits_until_told.Given as goal

abbrev pub ghost-bits_left : goal.ghost-bits_left
ghost-bits_left g a = g.setup

abbrev pub ghost-run_some_bits : goal.ghost-run_some_bits
ghost-run_some_bits g a = g.setup
