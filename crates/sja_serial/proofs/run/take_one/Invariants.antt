use Rattle.sja_serial.specs.Serial.{setup_in}
use Rattle.sja_serial.proofs.run.take_one.Given as goal

abbrev pub ghost-bus_turn : goal.ghost-bus_turn
ghost-bus_turn a = setup_in a.self.now

abbrev pub ghost-rest_turn : goal.ghost-rest_turn
ghost-rest_turn a = setup_in a.self.now

abbrev pub ghost-irq_turn : goal.ghost-irq_turn
ghost-irq_turn a = setup_in a.self.now
