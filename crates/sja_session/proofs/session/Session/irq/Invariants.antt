use Rattle.sja_serial.specs.Serial.{setup_in}
use Rattle.sja_session.proofs.session.Session.irq.Given as goal

abbrev pub ghost-irq : goal.ghost-irq
ghost-irq a = setup_in a.self.now
