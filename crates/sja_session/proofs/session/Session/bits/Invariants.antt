use Rattle.sja_serial.specs.Serial.{setup_in}
use Rattle.sja_session.proofs.session.Session.bits.Given as goal

abbrev pub ghost-bus_turn : goal.ghost-bus_turn
ghost-bus_turn a = setup_in a.self.now
