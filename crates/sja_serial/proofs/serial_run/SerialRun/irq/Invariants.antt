use Rattle.sja_serial.proofs.serial_run.SerialRun.irq.Given as goal

abbrev pub ghost-seen : goal.ghost-seen
ghost-seen g a = g.setup
