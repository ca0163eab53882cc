use Rattle.sja_serial.proofs.registers.push_node.Given as goal

abbrev pub ghost-seen : goal.ghost-seen
ghost-seen g a = g.setup
