use Rattle.sja_serial.specs.Serial.{setup_in}
use Rattle.sja_session.proofs.session.Session.run_until_told.Given as goal

abbrev pub ghost-bits_until_told : goal.ghost-bits_until_told
ghost-bits_until_told a = setup_in a.self.now
