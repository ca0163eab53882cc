use Rattle.sja_serial.specs.Serial.{setup_in}
use Rattle.sja_session.proofs.session.Session.finish.Given as goal

abbrev pub ghost-finish : goal.ghost-finish
ghost-finish a = setup_in a.self
