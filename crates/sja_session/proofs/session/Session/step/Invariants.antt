use Rattle.sja_serial.specs.Serial.{setup_in}
use Rattle.sja_session.proofs.session.Session.step.Given as goal

abbrev pub ghost-step : goal.ghost-step
ghost-step a = setup_in a.self.now
