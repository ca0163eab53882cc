use Rattle.sja_serial.specs.Serial.{setup_in}
use Rattle.sja_session.proofs.session.Session.place.Given as goal

abbrev pub ghost-place : goal.ghost-place
ghost-place a = setup_in a.self.now
