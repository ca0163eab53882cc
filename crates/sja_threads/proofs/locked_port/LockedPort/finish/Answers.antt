use Rattle.sja_threads.proofs.Twin.Led.{led_ended}
use Rattle.sja_threads.proofs.locked_port.LockedPort.finish.Goals as goal

pub invariant_of-self : goal.invariant_of-self
invariant_of-self g c = let inv = c.self.invariant in record {
  turns = inv.turns;
  acts = inv.acts;
  bits = inv.bits;
  led = led_ended g.N.Order.version c.self.inside.turns.list c.self.inside.acts.list c.self.inside.port
      c.finish.new.self
      c.finish.ensures inv.led;
}
