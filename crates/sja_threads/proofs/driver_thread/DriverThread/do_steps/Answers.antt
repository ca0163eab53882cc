use Rattle.std.proofs.Common.{take, rules, ℕ, ◌≡◌, ◌-◌, ◌+◌, min, true, false, inl, inr, ◌++◌, List}
use Rattle.std.proofs.Common.{[], ◌∷◌, length, refl, sym, ap, ◌∙◌, subst, arith}
use Rattle.std.proofs.lemmas.List.{length-append, take_more}
use Rattle.lemmas.proofs.Numbers.{earlier_or_last}
use Rattle.sja_steps.specs.declared.step_record.StepRecord.{StepRecord}
use Rattle.sja_steps.specs.declared.step.Step.{Step}
use Rattle.sja_driver.specs.StepRuns.{step_record_of}
use Rattle.sja_driver.specs.LoggedDrivers.{log_of}
use Rattle.sja_driver.specs.Logs.{done_in}
use Rattle.sja_thread_promises.specs.Asking.{IsLet, number_after}
use Rattle.sja_threads.specs.Inside.StepRuns.{HasDone}
use Rattle.sja_threads.proofs.Driver.Asked.{has_when, when}
use Rattle.sja_threads.proofs.Driver.Script.{done_none, done_more, ended_all, ended_by, step_able, step_less}
use Rattle.sja_threads.proofs.driver_thread.DriverThread.do_steps.Goals as goal

pub loop-k-init : goal.loop-k-init
loop-k-init g c =
    let w = g.world in
    let laws = g.met.G.Gate w.𝓛 w.𝓜 w.𝓡 ((λ s x. x), (λ x. x), (λ x. x), λ x. x) in record {
      able = step_less g.D.DriverEnd c.args.self.now (length c.args.steps.now - 0) (length c.args.steps.now)
          (omega arith) c.requires.may;
      done = done_none g.D.DriverEnd g.met.D.DriverEnd.same_trans g.met.D.DriverEnd.same_refl c.args.self.now
          c.requires.traces c.requires.kept c.requires.found c.requires.empty;
      asks = laws.first_step c.args.at.now.gate c.args.self.now.done.node;
      number = omega arith;
      count = ap (λ (l : List StepRecord). length l) c.requires.empty.done;
      go = λ before less. absurd (omega (arith, less));
    }

pub loop-k-preserved : goal.loop-k-preserved
loop-k-preserved g c =
    let few = c.loop-k-test.true in
    let s = c.index-steps-k.result in
    let all = c.args.steps.now in
    let k = c.loop-k.k in
    let laws = g.met.G.Gate g.world.𝓛 g.world.𝓜 g.world.𝓡 ((λ s x. x), (λ x. x), (λ x. x), λ x. x) in
    let next = c.saturating_add-number.result in
    let does = c.do_step.ensures.done c.if-not-do_step.false in record {
      able = step_able g.D.DriverEnd c.loop-k.self c.do_step.new.self s (length all - (k + 1)) does
          (step_less g.D.DriverEnd c.loop-k.self (length all - (k + 1) + 1) (length all - k) (omega (arith, few))
          c.loop-k.invariant.able);
      done = subst (λ (l : List Step). HasDone g.D.DriverEnd c.args.self.now c.do_step.new.self l)
          (sym (take_more all k s few ∙ ap (λ (x : Step). take k all ++ x ∷ []) (sym c.index-steps-k.is)))
          (done_more g.D.DriverEnd g.met.D.DriverEnd.same_trans g.met.D.DriverEnd.same_refl c.args.self.now
          c.requires.traces c.loop-k.self (take k all) c.loop-k.invariant.done c.do_step.new.self s does);
      asks = subst (λ (node : ℕ). g.G.Gate.asks c.args.at.now.gate node next 1) (sym does.does.same)
          (laws.next_step c.args.at.now.gate c.loop-k.self.done.node c.loop-k.number c.do_step.ensures.answered.0 next
          (when g.G.Gate.answered c.args.at.now.gate _ _ c.loop-k.number c.do_step.ensures.answered.0 refl
          c.do_step.result true c.if-not-do_step.false c.do_step.ensures.answered.1)
          (search rules));
      number =
          let before = c.loop-k.invariant.number in
          let more : next ≡ min (c.loop-k.number + 1) 4294967295 = search rules in omega (arith, before, more);
      count =
          let before = c.loop-k.invariant.count in
          let more = ap (λ (l : List StepRecord). length l) does.done in
          let long = length-append (done_in (log_of c.loop-k.self.driver)) (step_record_of does.step_run ∷ []) in
          omega (arith, before, more, long);
      go = λ before less. elim (earlier_or_last before k less) [
        | inl earlier ↦ c.loop-k.invariant.go before earlier
        | inr last ↦ has_when g.G.Gate.answered c.args.at.now.gate _ _ c.loop-k.number (number_after before)
            c.do_step.result true c.loop-k.invariant.done.does.same
            (c.loop-k.invariant.number ∙ ap number_after (sym last)) c.if-not-do_step.false c.do_step.ensures.answered
      ];
    }

pub returns-then-not-do_step-clause-ended : goal.returns-then-not-do_step-clause-ended
returns-then-not-do_step-clause-ended g c =
    let few = c.loop-k-test.true in
    let k = c.loop-k.k in
    ended_by g.D.DriverEnd g.met.D.DriverEnd.same_trans g.met.D.DriverEnd.same_refl c.args.self.now c.requires.traces
    c.loop-k.self (take k c.args.steps.now) c.loop-k.invariant.done c.args.steps.now k (omega (arith, few)) refl
    g.G.Gate.QUITS c.do_step.new.self c.index-steps-k.result few c.index-steps-k.is
    (c.do_step.ensures.quits c.if-not-do_step.true) (c.do_step.ensures.never c.if-not-do_step.true)

pub returns-clause-ended : goal.returns-clause-ended
returns-clause-ended g c =
    let over = c.loop-k-test.false in
    let end = c.loop-k.auto.k-end in
    ended_all g.D.DriverEnd g.met.D.DriverEnd.same_trans g.met.D.DriverEnd.same_refl c.args.self.now c.requires.traces
    c.loop-k.self (take c.loop-k.k c.args.steps.now) c.loop-k.invariant.done c.args.steps.now c.loop-k.k end refl
    g.G.Gate.QUITS (omega (arith, over, end)) c.loop-k.invariant.able.may.lawful

-- what a gate quit in isn't done
pub returns-then-not-do_step-clause-let_by : goal.returns-then-not-do_step-clause-let_by
returns-then-not-do_step-clause-let_by g c =
    let at = ap (λ v. length v.items) (c.do_step.ensures.quits c.if-not-do_step.true).none.done
    ∙ c.loop-k.invariant.count in
    subst (λ (n : ℕ). IsLet g.G.Gate.QUITS g.G.Gate.answered c.args.at.now.gate c.args.self.now.done.node
    (length c.args.steps.now) n) (sym at) (record {
      go = c.loop-k.invariant.go;
      ends = inr (
        c.do_step.ensures.never c.if-not-do_step.true,
        has_when g.G.Gate.answered c.args.at.now.gate _ _ c.loop-k.number (number_after c.loop-k.k) c.do_step.result
            false c.loop-k.invariant.done.does.same c.loop-k.invariant.number c.if-not-do_step.true
            c.do_step.ensures.answered,
      );
    })

pub returns-clause-let_by : goal.returns-clause-let_by
returns-clause-let_by g c =
    let over = c.loop-k-test.false in
    let end = c.loop-k.auto.k-end in
    subst (λ (n : ℕ). IsLet g.G.Gate.QUITS g.G.Gate.answered c.args.at.now.gate c.args.self.now.done.node
    (length c.args.steps.now) n) (sym c.loop-k.invariant.count)
    (record { go = c.loop-k.invariant.go; ends = inl (omega (arith, over, end)) })
