use Rattle.std.proofs.Common.{rules, ◌≡◌, ◌≤◌, ℕ, Bool, true, false, Ok, Err, length, refl, sym, ap, ◌∙◌, subst}
use Rattle.std.proofs.Common.{arith, inl, inr}
use Rattle.std.proofs.lemmas.List.{length-map}
use Rattle.lemmas.proofs.Results.{err_is}
use Rattle.sja_log.specs.declared.end.End.{End}
use Rattle.sja_log.specs.declared.end.End.TheVariants.{Rest, Bits, Turns}
use Rattle.sja_threads.specs.declared.round.Round.{Round}
use Rattle.sja_threads.specs.declared.round.Round.TheVariants.{Ran, Rests}
use Rattle.sja_threads.specs.Inside.Boards.{AllEnded, AreClosed, AreTold, turns_in}
use Rattle.sja_threads.specs.Inside.Rounds.{GoesOn, Stops}
use Rattle.sja_threads.proofs.Rounds.Closed.{closed_all, closed_more, not_spent, ran_on, rests_on}
use Rattle.sja_threads.proofs.Rounds.GoesOn.{stays_on, on_twice}
use Rattle.sja_threads.proofs.Rounds.SameEnds.{are_ends, have_links}
use Rattle.sja_threads.proofs.Rounds.Stops.{stops_later}
use Rattle.sja_threads.proofs.Rounds.Told.{ended_more, told_ran, told_spent}
use Rattle.sja_threads.proofs.bus_thread.BusThread.rounds_after_drivers.Given.{Over}
use Rattle.sja_threads.proofs.bus_thread.BusThread.rounds_after_drivers.Goals.{After-tell_bits, In_ok-gather}
use Rattle.sja_threads.proofs.bus_thread.BusThread.rounds_after_drivers.Goals.{In_ok-bit_if_due}
use Rattle.sja_threads.proofs.bus_thread.BusThread.rounds_after_drivers.Goals as goal

-- how a run ends, by number
abbrev number_of : End → ℕ
number_of Rest = 0
number_of Bits = 1
number_of Turns = 2

rest_is : (end : End) → number_of end ≡ 0 → end ≡ Rest
rest_is Rest is = refl
rest_is Bits is = absurd (omega (arith, is))
rest_is Turns is = absurd (omega (arith, is))

bits_is : (end : End) → number_of end ≡ 1 → end ≡ Bits
bits_is Rest is = absurd (omega (arith, is))
bits_is Bits is = refl
bits_is Turns is = absurd (omega (arith, is))

-- once what was left was taken
taken : (g : Over) (c : In_ok-gather g) → GoesOn c.args.plan.now c.args.self.now c.gather.new.self
taken g c =
    let on = c.loop.invariant.on in
    on_twice c.args.plan.now c.args.self.now c.loop.self c.gather.new.self on
    (c.in_ok-gather.ensures.on c.args.plan.now on.way)

-- and after the bit
one_more : (g : Over) (c : In_ok-bit_if_due g) → GoesOn c.args.plan.now c.args.self.now c.bit_if_due.new.self
one_more g c =
    let on = c.loop.invariant.on in
    let took = on_twice c.args.plan.now c.args.self.now c.loop.self c.gather.new.self on
    (c.in_ok-gather.ensures.on c.args.plan.now on.way) in
    on_twice c.args.plan.now c.args.self.now c.gather.new.self c.bit_if_due.new.self took c.in_ok-bit_if_due.ensures.on

-- and what it told
told_on : (g : Over) (c : In_ok-bit_if_due g) →
    AreTold c.args.plan.now c.args.self.now.bus.journals (turns_in c.args.board.now.told.items) →
    AreTold c.args.plan.now c.bit_if_due.new.self.bus.journals (turns_in c.bit_if_due.new.board.told.items)
told_on g c are =
    let w = c.loop.invariant.on.way in
    let laws = c.bits_run.ensures.lawful w.right in
    let told = c.loop.board.told.items in
    let many = w.journals in
    let ports = c.loop.invariant.ports in
    let first = c.requires.ports in
    let long = length-map told (λ x. x.known.list) in
    c.in_ok-bit_if_due.ensures.told (c.in_ok-gather.ensures.told c.args.plan.now
    (turns_in c.tell_bits.new.self.told.items)
    (told_ran c.args.plan.now c.loop.self.run c.loop.self.bus.journals (turns_in told)
    (turns_in c.tell_bits.new.self.told.items)
    (λ node few. laws.wired.count node few ∙ w.run)
    (omega (arith, many, ports, first, long)) c.tell_bits.ensures.told (c.loop.invariant.told are)))

-- by a round as it was before none is closed
closed_on : (g : Over) (c : In_ok-bit_if_due g) →
    AreClosed (length c.args.plan.now.nodes) c.args.self.now.spent (turns_in c.args.board.now.told.items) →
    AreClosed (length c.args.plan.now.nodes) c.loop.self.spent (turns_in c.bit_if_due.new.board.told.items)
closed_on g c are =
    let told = c.loop.board.told.items in
    let ports = c.loop.invariant.ports in
    let first = c.requires.ports in
    let long = length-map told (λ x. x.known.list) in
    c.in_ok-bit_if_due.ensures.closed c.loop.self.spent
    (closed_more (length c.args.plan.now.nodes) c.loop.self.run (turns_in told)
    (turns_in c.tell_bits.new.self.told.items)
    (omega (arith, ports, first, long)) c.tell_bits.ensures.told c.loop.self.spent (c.loop.invariant.closed are))

-- each driver was found to have ended, and stays so
ended_there : (g : Over) (c : After-tell_bits g) →
    AllEnded (length c.args.plan.now.nodes) (turns_in c.tell_bits.new.self.told.items)
ended_there g c =
    let told = c.loop.board.told.items in
    let ports = c.loop.invariant.ports in
    let first = c.requires.ports in
    let long = length-map told (λ x. x.known.list) in
    ended_more (length c.args.plan.now.nodes) c.loop.self.run (turns_in told)
    (turns_in c.tell_bits.new.self.told.items)
    (omega (arith, ports, first, long)) c.tell_bits.ensures.told c.loop.invariant.ended

pub loop-init : goal.loop-init
loop-init g c = record {
  on = stays_on c.args.plan.now c.args.self.now c.requires.way;
  count = refl;
  ports = refl;
  told = λ are. are;
  closed = λ are. are;
  ended = c.requires.ended;
}

pub gather-requires : goal.gather-requires
gather-requires g c =
    let w = c.loop.invariant.on.way in record {
      ends = are_ends (length c.args.plan.now.nodes) (length c.loop.self.bus.journals) c.loop.self.links.items
          w.journals w.ends;
      links = have_links (length c.args.plan.now.nodes) c.loop.self.bus.starts c.loop.self.links.items w.links w.ends;
    }

pub returns-in_err-gather-clause-fault : goal.returns-in_err-gather-clause-fault
returns-in_err-gather-clause-fault g c =
    let f = c.in_err-gather.field-0.0 in
    let is : c.from_residual.result ≡ Err f = search rules in
    err_is (Stops c.args.plan.now c.args.self.now c.gather.new.self) c.from_residual.result f is
    (stops_later c.args.plan.now c.args.self.now c.loop.self c.gather.new.self f c.loop.invariant.on
    (c.in_err-gather.ensures.fault c.args.plan.now c.loop.invariant.on.way))

pub returns-in_err-bit_if_due-clause-fault : goal.returns-in_err-bit_if_due-clause-fault
returns-in_err-bit_if_due-clause-fault g c =
    let f = c.in_err-bit_if_due.field-0.0 in
    let is : c.from_residual-in_err-bit_if_due.result ≡ Err f = search rules in
    let took = taken g (goal.at.returns-in_err-bit_if_due-clause-fault g c).In_ok-gather in
    err_is (Stops c.args.plan.now c.args.self.now c.bit_if_due.new.self) c.from_residual-in_err-bit_if_due.result f is
    (stops_later c.args.plan.now c.args.self.now c.gather.new.self c.bit_if_due.new.self f took
    c.in_err-bit_if_due.ensures.fault)

pub bit_if_due-requires-clause-way : goal.bit_if_due-requires-clause-way
bit_if_due-requires-clause-way g c = (taken g (goal.at.bit_if_due-requires-clause-way g c).In_ok-gather).way

pub bit_if_due-requires-clause-begun : goal.bit_if_due-requires-clause-begun
bit_if_due-requires-clause-begun g c = λ node few.
    let many = (taken g (goal.at.bit_if_due-requires-clause-begun g c).In_ok-gather).way.journals in
    inr (inl (ended_there g (goal.at.bit_if_due-requires-clause-begun g c).After-tell_bits node
    (omega (arith, few, many))))

pub loop-preserved : goal.loop-preserved
loop-preserved g c =
    let count = c.loop.invariant.count in
    let taken = c.gather.ensures.run in
    let ran = c.bit_if_due.ensures.ran (c.in_ok-bit_if_due.was ∙ ap (λ (r : Round). Ok r) c.in-Ran.is) in
    record {
      on = one_more g (goal.at.loop-preserved g c).In_ok-bit_if_due;
      count = omega (arith, count, taken, ran);
      ports = c.bit_if_due.ensures.ports ∙ c.tell_bits.ensures.many ∙ c.loop.invariant.ports;
      told = told_on g (goal.at.loop-preserved g c).In_ok-bit_if_due;
      closed = λ are.
          subst (λ (b : Bool). AreClosed (length c.args.plan.now.nodes) b (turns_in c.bit_if_due.new.board.told.items))
          (sym (c.bit_if_due.ensures.stays (not_spent c.bit_if_due.result Ran
          (c.in_ok-bit_if_due.was ∙ ap (λ (r : Round). Ok r) c.in-Ran.is) ran_on) ∙ c.gather.ensures.spent))
          (closed_on g (goal.at.loop-preserved g c).In_ok-bit_if_due are);
      ended = c.in_ok-bit_if_due.ensures.ended (ended_there g (goal.at.loop-preserved g c).After-tell_bits);
    }

pub returns-in-Rests-clause-ends : goal.returns-in-Rests-clause-ends
returns-in-Rests-clause-ends g c = record {
  on = one_more g (goal.at.returns-in-Rests-clause-ends g c).In_ok-bit_if_due;
  duly =
      let rests = c.bit_if_due.ensures.rests (c.in_ok-bit_if_due.was ∙ ap (λ (r : Round). Ok r) c.in-Rests.is) in
      inl (
        rest_is _ (omega arith),
        subst (λ (n : ℕ). n ≤ c.bit_if_due.new.self.run) c.last_awaited-awaited.ensures rests.0,
        rests.1,
      );
}

pub returns-in-Rests-2-clause-ends : goal.returns-in-Rests-2-clause-ends
returns-in-Rests-2-clause-ends g c =
    let on = one_more g (goal.at.returns-in-Rests-2-clause-ends g c).In_ok-bit_if_due in
    let spent = on.way.spent (search rules) in
    record { on = on; duly = inr (bits_is _ (omega arith), spent.0, spent.1) }

pub returns-in-Spent-clause-ends : goal.returns-in-Spent-clause-ends
returns-in-Spent-clause-ends g c =
    let on = one_more g (goal.at.returns-in-Spent-clause-ends g c).In_ok-bit_if_due in
    let spent = on.way.spent (c.bit_if_due.ensures.spent (c.in_ok-bit_if_due.was
    ∙ ap (λ (r : Round). Ok r) c.in-Spent.is))
    in
    record { on = on; duly = inr (bits_is _ (omega arith), spent.0, spent.1) }

pub returns-in-Rests-clause-told : goal.returns-in-Rests-clause-told
returns-in-Rests-clause-told g c = told_on g (goal.at.returns-in-Rests-clause-told g c).In_ok-bit_if_due

pub returns-in-Rests-2-clause-told : goal.returns-in-Rests-2-clause-told
returns-in-Rests-2-clause-told g c = told_on g (goal.at.returns-in-Rests-2-clause-told g c).In_ok-bit_if_due

pub returns-in-Spent-clause-told : goal.returns-in-Spent-clause-told
returns-in-Spent-clause-told g c = λ are.
    let told = c.bit_if_due.new.board.told.items in
    let on = one_more g (goal.at.returns-in-Spent-clause-told g c).In_ok-bit_if_due in
    let many = on.way.journals in
    let first = c.requires.ports in
    let loop = c.loop.invariant.ports in
    let second = c.tell_bits.ensures.many in
    let third = c.bit_if_due.ensures.ports in
    let long = length-map told (λ x. x.known.list) in
    told_spent c.args.plan.now c.bit_if_due.new.self.bus.journals (turns_in told)
    (turns_in c.close_all.new.self.told.items)
    (c.bit_if_due.ensures.all (c.in_ok-bit_if_due.was ∙ ap (λ (r : Round). Ok r) c.in-Spent.is))
    (omega (arith, many, first, loop, second, third, long)) c.close_all.ensures.told
    (told_on g (goal.at.returns-in-Spent-clause-told g c).In_ok-bit_if_due are)

-- at rest, or where the bits were spent before, the ports are as they were; and where they are spent now all are closed
pub returns-in-Rests-clause-closed : goal.returns-in-Rests-clause-closed
returns-in-Rests-clause-closed g c = λ are.
    let open_still : c.loop.self.spent ≡ false =
    sym (c.bit_if_due.ensures.stays (not_spent c.bit_if_due.result Rests
    (c.in_ok-bit_if_due.was ∙ ap (λ (r : Round). Ok r) c.in-Rests.is) rests_on) ∙ c.gather.ensures.spent)
    ∙ search rules in
    subst (λ (b : Bool). AreClosed (length c.args.plan.now.nodes) b (turns_in c.bit_if_due.new.board.told.items))
    open_still (closed_on g (goal.at.returns-in-Rests-clause-closed g c).In_ok-bit_if_due are)

pub returns-in-Rests-2-clause-closed : goal.returns-in-Rests-2-clause-closed
returns-in-Rests-2-clause-closed g c = λ are.
    let shut : c.loop.self.spent ≡ true =
    sym (c.bit_if_due.ensures.stays (not_spent c.bit_if_due.result Rests
    (c.in_ok-bit_if_due.was ∙ ap (λ (r : Round). Ok r) c.in-Rests-2.is) rests_on) ∙ c.gather.ensures.spent)
    ∙ search rules in
    subst (λ (b : Bool). AreClosed (length c.args.plan.now.nodes) b (turns_in c.bit_if_due.new.board.told.items)) shut
    (closed_on g (goal.at.returns-in-Rests-2-clause-closed g c).In_ok-bit_if_due are)

pub returns-in-Spent-clause-closed : goal.returns-in-Spent-clause-closed
returns-in-Spent-clause-closed g c = λ are.
    let told = c.bit_if_due.new.board.told.items in
    let first = c.requires.ports in
    let loop = c.loop.invariant.ports in
    let second = c.tell_bits.ensures.many in
    let third = c.bit_if_due.ensures.ports in
    let long = length-map told (λ x. x.known.list) in
    closed_all (length c.args.plan.now.nodes) (turns_in told) (turns_in c.close_all.new.self.told.items)
    (omega (arith, first, loop, second, third, long)) c.close_all.ensures.told

-- before the bit all that was shown was taken
pub bit_if_due-requires-clause-dry : goal.bit_if_due-requires-clause-dry
bit_if_due-requires-clause-dry g c = c.in_ok-gather.ensures.dry
