use Rattle.sja_serial.proofs.serial_run.SerialRun.write_command.Given as goal

abbrev pub ghost-write_alone : goal.ghost-write_alone
ghost-write_alone g a = g.setup

abbrev pub ghost-write_parts : goal.ghost-write_parts
ghost-write_parts g a = g.setup
