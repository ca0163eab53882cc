use Rattle.std.proofs.Common.{rules, ◌≡◌, Err, refl, ◌∙◌}
use Rattle.lemmas.proofs.Results.{err_is}
use Rattle.sja_threads.specs.Inside.Rounds.{GoesOn, Stops}
use Rattle.sja_threads.proofs.Rounds.GoesOn.{stays_on, on_twice}
use Rattle.sja_threads.proofs.Rounds.Stops.{stops_later}
use Rattle.sja_threads.proofs.bus_thread.BusThread.rounds_beside_drivers.Given.{Over}
use Rattle.sja_threads.proofs.bus_thread.BusThread.rounds_beside_drivers.Goals.{In_ok-round}
use Rattle.sja_threads.proofs.bus_thread.BusThread.rounds_beside_drivers.Goals as goal

-- after one round more
one_more : (g : Over) (c : In_ok-round g) → GoesOn c.args.plan.now c.args.self.now c.told_round.new.self
one_more g c =
    on_twice c.args.plan.now c.args.self.now c.loop.self c.told_round.new.self c.loop.invariant.on
    c.in_ok-round.ensures.on

pub loop-init : goal.loop-init
loop-init g c =
    record {
      on = stays_on c.args.plan.now c.args.self.now c.requires.way;
      ports = refl;
      told = λ are. are;
      closed = λ are. are;
    }

pub returns-then-over-clause-on : goal.returns-then-over-clause-on
returns-then-over-clause-on g c = one_more g (goal.at.returns-then-over-clause-on g c).In_ok-round

pub loop-preserved-then-eq : goal.loop-preserved-then-eq
loop-preserved-then-eq g c = record {
  on = one_more g (goal.at.loop-preserved-then-eq g c).In_ok-round;
  ports = c.told_round.ensures.ports ∙ c.loop.invariant.ports;
  told = λ are. c.in_ok-round.ensures.told (c.loop.invariant.told are);
  closed = λ are. c.in_ok-round.ensures.closed (c.loop.invariant.closed are);
}

pub loop-preserved : goal.loop-preserved
loop-preserved g c = record {
  on = one_more g (goal.at.loop-preserved g c).In_ok-round;
  ports = c.told_round.ensures.ports ∙ c.loop.invariant.ports;
  told = λ are. c.in_ok-round.ensures.told (c.loop.invariant.told are);
  closed = λ are. c.in_ok-round.ensures.closed (c.loop.invariant.closed are);
}

pub returns-in_err-round-clause-fault : goal.returns-in_err-round-clause-fault
returns-in_err-round-clause-fault g c =
    let f = c.in_err-round.field-0.0 in
    let is : c.from_residual.result ≡ Err f = search rules in
    err_is (Stops c.args.plan.now c.args.self.now c.told_round.new.self) c.from_residual.result f is
    (stops_later c.args.plan.now c.args.self.now c.loop.self c.told_round.new.self f c.loop.invariant.on
    c.in_err-round.ensures.fault)

pub returns-then-over-clause-told : goal.returns-then-over-clause-told
returns-then-over-clause-told g c = λ are. c.in_ok-round.ensures.told (c.loop.invariant.told are)

pub returns-then-over-clause-closed : goal.returns-then-over-clause-closed
returns-then-over-clause-closed g c = λ are. c.in_ok-round.ensures.closed (c.loop.invariant.closed are)
