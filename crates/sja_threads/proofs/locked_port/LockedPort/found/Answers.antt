use Rattle.sja_threads.proofs.Twin.TypedActs.{has_done, same_done}
use Rattle.sja_threads.proofs.locked_port.LockedPort.found.Goals as goal

pub returns : goal.returns
returns g c = record {
  has = has_done c.args.done.now c.self.inside.turns.list c.self.inside.acts.list c.self.inside.port
      c.self.invariant.led c.agree.ensures.same;
  done = same_done c.args.done.now c.agree.new.known c.agree.ensures.known _ _;
}
