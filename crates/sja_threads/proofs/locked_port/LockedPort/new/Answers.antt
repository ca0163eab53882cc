use Rattle.std.proofs.Common.{sym, ap}
use Rattle.sja_thread_promises.specs.Ordering.{bits_told}
use Rattle.sja_threads.proofs.Twin.Led.{led_new}
use Rattle.sja_threads.proofs.locked_port.LockedPort.new.Goals as goal

pub invariant_of-result : goal.invariant_of-result
invariant_of-result g c = let r = c.requires in record {
  turns = r.turns.0;
  acts = r.acts.0;
  bits = sym (ap bits_told r.turns.1);
  led = led_new g.N.Order.version c.args.version c.args.turns.list c.args.acts.list c.new.result r.turns.1 r.acts.1
      c.new.ensures r.version;
}
