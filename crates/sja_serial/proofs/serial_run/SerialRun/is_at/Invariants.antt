use Rattle.sja_serial.proofs.serial_run.SerialRun.is_at.Given as goal

abbrev pub ghost-place : goal.ghost-place
ghost-place g a = g.setup
