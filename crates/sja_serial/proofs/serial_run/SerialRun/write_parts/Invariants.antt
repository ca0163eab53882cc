use Rattle.sja_serial.proofs.serial_run.SerialRun.write_parts.Given as goal

abbrev pub ghost-part : goal.ghost-part
ghost-part g a = g.setup

abbrev pub ghost-bits_left : goal.ghost-bits_left
ghost-bits_left g a = g.setup
