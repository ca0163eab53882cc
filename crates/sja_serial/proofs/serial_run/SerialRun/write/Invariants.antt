use Rattle.sja_serial.proofs.serial_run.SerialRun.write.Given as goal

abbrev pub ghost-write_alone : goal.ghost-write_alone
ghost-write_alone g a = g.setup

abbrev pub ghost-write_command : goal.ghost-write_command
ghost-write_command g a = g.setup

abbrev pub ghost-write_mode : goal.ghost-write_mode
ghost-write_mode g a = g.setup
