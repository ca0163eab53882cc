use Rattle.sja_serial.proofs.serial_run.SerialRun.finish.Given as goal

abbrev pub ghost-version : goal.ghost-version
ghost-version g a = g.setup
