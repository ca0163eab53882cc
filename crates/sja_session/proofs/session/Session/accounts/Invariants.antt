use Rattle.sja_serial.specs.Serial.{setup_in}
use Rattle.sja_session.proofs.session.Session.accounts.Given as goal

abbrev pub ghost-accounts : goal.ghost-accounts
ghost-accounts a = setup_in a.self.now
