use Rattle.sja_serial.proofs.serial_run.SerialRun.one_act.Given as goal

abbrev pub ghost-act : goal.ghost-act
ghost-act g a = g.setup
