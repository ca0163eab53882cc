use Rattle.sja_serial.specs.Serial.{setup_in}
use Rattle.sja_session.proofs.session.Session.rest.Given as goal

abbrev pub ghost-rest_turn : goal.ghost-rest_turn
ghost-rest_turn a = setup_in a.self.now
