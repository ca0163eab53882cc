use Rattle.sja_serial.specs.Serial.{setup_in}
use Rattle.sja_session.proofs.session.Session.to_place.Given as goal

abbrev pub ghost-place_turn : goal.ghost-place_turn
ghost-place_turn a = setup_in a.self.now
