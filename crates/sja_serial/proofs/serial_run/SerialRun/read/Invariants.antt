use Rattle.sja_serial.proofs.serial_run.SerialRun.read.Given as goal

abbrev pub ghost-act : goal.ghost-act
ghost-act g a = g.setup
