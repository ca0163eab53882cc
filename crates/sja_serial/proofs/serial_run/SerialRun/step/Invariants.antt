use Rattle.sja_serial.proofs.serial_run.SerialRun.step.Given as goal

abbrev pub ghost-one_act : goal.ghost-one_act
ghost-one_act g a = g.setup

abbrev pub ghost-read : goal.ghost-read
ghost-read g a = g.setup

abbrev pub ghost-write : goal.ghost-write
ghost-write g a = g.setup

abbrev pub ghost-version : goal.ghost-version
ghost-version g a = g.setup

abbrev pub ghost-reach : goal.ghost-reach
ghost-reach g a = g.setup
