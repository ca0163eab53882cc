use Rattle.sja_serial.proofs.serial_run.SerialRun.run_some_bits.Given as goal

abbrev pub ghost-run_untold_bits : goal.ghost-run_untold_bits
ghost-run_untold_bits g a = g.setup

abbrev pub ghost-run_one_bit : goal.ghost-run_one_bit
ghost-run_one_bit g a = g.setup
