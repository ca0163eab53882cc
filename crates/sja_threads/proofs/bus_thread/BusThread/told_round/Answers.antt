use Rattle.std.proofs.Common.{rules, ◌≡◌, ℕ, ◌≤◌, Bool, List, Ok, Err, length, sym, ap, ◌∙◌, subst, arith}
use Rattle.std.proofs.lemmas.List.{length-map}
use Rattle.lemmas.proofs.Results.{err_is}
use Rattle.sja_threads.specs.declared.round.Round.{Round}
use Rattle.sja_threads.specs.Inside.Rounds.{Stops}
use Rattle.sja_threads.specs.Inside.Boards.{AreClosed, AreTold, StayClosed, turns_in}
use Rattle.sja_threads.proofs.Rounds.Closed.{closed_all, closed_more, not_spent}
use Rattle.sja_threads.proofs.Rounds.Told.{told_ran, told_spent}
use Rattle.sja_threads.proofs.bus_thread.BusThread.told_round.Given.{Over}
use Rattle.sja_threads.proofs.bus_thread.BusThread.told_round.Goals.{In_ok-round}
use Rattle.sja_threads.proofs.bus_thread.BusThread.told_round.Goals as goal

-- what was told first, and by the round
ran_first : (g : Over) (c : In_ok-round g) →
    AreTold c.args.plan.now c.args.self.now.bus.journals (turns_in c.args.board.now.told.items) →
    AreTold c.args.plan.now c.round_beside.new.self.bus.journals (turns_in c.round_beside.new.board.told.items)
ran_first g c are =
    let w = c.requires.way in
    let laws = c.bits_run.ensures.lawful w.right in
    let told = c.args.board.now.told.items in
    let many = w.journals in
    let ports = c.requires.ports in
    let long = length-map told (λ x. x.known.list) in
    c.in_ok-round.ensures.told (told_ran c.args.plan.now c.args.self.now.run c.args.self.now.bus.journals
    (turns_in told) (turns_in c.tell_bits.new.self.told.items)
    (λ node few. laws.wired.count node few ∙ w.run) (omega (arith, many, ports, long))
    c.tell_bits.ensures.told are)

pub returns-in-Spent-clause-told : goal.returns-in-Spent-clause-told
returns-in-Spent-clause-told g c = λ are.
    let told = c.round_beside.new.board.told.items in
    let many = c.in_ok-round.ensures.on.way.journals in
    let first = c.requires.ports in
    let second = c.tell_bits.ensures.many in
    let third = c.round_beside.ensures.ports in
    let long = length-map told (λ x. x.known.list) in
    told_spent c.args.plan.now c.round_beside.new.self.bus.journals (turns_in told)
    (turns_in c.close_all.new.self.told.items) (c.in_ok-round.ensures.all (ap (λ (r : Round). Ok r) c.in-Spent.is))
    (omega (arith, many, first, second, third, long)) c.close_all.ensures.told
    (ran_first g (goal.at.returns-in-Spent-clause-told g c).In_ok-round are)

pub returns-in_default-clause-told : goal.returns-in_default-clause-told
returns-in_default-clause-told g c = ran_first g (goal.at.returns-in_default-clause-told g c).In_ok-round

pub returns-in_err-round-clause-fault : goal.returns-in_err-round-clause-fault
returns-in_err-round-clause-fault g c =
    let f = c.in_err-round.field-0.0 in
    let is : c.from_residual.result ≡ Err f = search rules in
    err_is (Stops c.args.plan.now c.args.self.now c.round_beside.new.self) c.from_residual.result f is
    c.in_err-round.ensures.fault

-- what was told first, and by the round, closes none
stay_closed : (g : Over) (c : In_ok-round g) → StayClosed (length c.args.plan.now.nodes)
    (turns_in c.args.board.now.told.items) (turns_in c.round_beside.new.board.told.items)
stay_closed g c closed are =
    let told = c.args.board.now.told.items in
    let ports = c.requires.ports in
    let long = length-map told (λ x. x.known.list) in
    c.in_ok-round.ensures.closed closed
    (closed_more (length c.args.plan.now.nodes) c.args.self.now.run (turns_in told)
    (turns_in c.tell_bits.new.self.told.items) (omega (arith, ports, long)) c.tell_bits.ensures.told closed are)

pub returns-in-Spent-clause-closed : goal.returns-in-Spent-clause-closed
returns-in-Spent-clause-closed g c = λ are.
    let told = c.round_beside.new.board.told.items in
    let ports = c.requires.ports in
    let second = c.tell_bits.ensures.many in
    let third = c.round_beside.ensures.ports in
    let long = length-map told (λ x. x.known.list) in
    subst (λ (b : Bool). AreClosed (length c.args.plan.now.nodes) b (turns_in c.close_all.new.self.told.items))
    (sym (c.round_beside.ensures.spent (c.in_ok-round.was ∙ ap (λ (r : Round). Ok r) c.in-Spent.is)))
    (closed_all (length c.args.plan.now.nodes) (turns_in told) (turns_in c.close_all.new.self.told.items)
    (omega (arith, ports, second, third, long)) c.close_all.ensures.told)

pub returns-in_default-clause-closed : goal.returns-in_default-clause-closed
returns-in_default-clause-closed g c = λ are.
    subst (λ (b : Bool). AreClosed (length c.args.plan.now.nodes) b (turns_in c.round_beside.new.board.told.items))
    (sym (c.round_beside.ensures.stays (not_spent c.round_beside.result _ c.in_ok-round.was c.in_default.not-Spent)))
    (stay_closed g (goal.at.returns-in_default-clause-closed g c).In_ok-round c.args.self.now.spent are)
