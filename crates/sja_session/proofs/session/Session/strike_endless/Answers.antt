use Rattle.std.proofs.Common.{◌≡◌, ◌≤◌, List, [], ◌∷◌, ◌++◌, vec_capacity, sym, ap, ◌∙◌, subst}
use Rattle.sja_plan.specs.Struck.{one_strike}
use Rattle.sja_steps.specs.declared.strike.Strike.{Strike}
use Rattle.sja_driver.specs.StepRuns.{StepRun}
use Rattle.sja_serial.specs.Serial.{StandsBy}
use Rattle.sja_serial.specs.Striking.{struck_run, struck_setup}
use Rattle.sja_session.specs.Sessions.{SessionValue, IsAt, IsEndless, IsSession, plan_with}
use Rattle.sja_session.specs.Sessions.{session_of, setup_by, written}
use Rattle.sja_session.specs.Striking.{IsStruck, struck_session}
use Rattle.sja_session.proofs.BitsDone.AfterBits.{session_at}
use Rattle.sja_session.proofs.StruckOnce.{goes_beside, struck_at_them, struck_beside}
use Rattle.sja_session.proofs.WrittenPlan.OneMore.{listed, rooms_of}
use Rattle.sja_session.proofs.session.Session.strike_endless.Goals.{After-push}
use Rattle.sja_session.proofs.session.Session.strike_endless.Goals as goal

-- the session as it was, and as it is
abbrev was : After-push → SessionValue
was c = session_of c.self.inside.room c.self.inside.run
    (plan_with c.self.inside.plan c.self.inside.bits c.self.inside.struck.items) (listed c.self.inside.steps.items)
    c.self.inside.turns.items

abbrev now : After-push → SessionValue
now c = session_of c.self.inside.room c.strike.new.self
    (plan_with c.self.inside.plan c.self.inside.bits c.push.new.self.items) (listed c.self.inside.steps.items)
    c.self.inside.turns.items

run_is : (c : After-push) → c.strike.new.self ≡ struck_run c.self.inside.run (one_strike c.args.node c.args.bit)
run_is c = c.in_ok-strike.ensures.struck ∙ ap (struck_run c.self.inside.run) c.one_strike-strike.ensures

now_is : (c : After-push) → now c ≡ struck_session (was c) c.args.node c.args.bit
now_is c =
    let b = c.self.inside in
    let plan = ap (plan_with b.plan b.bits) (c.push.ensures.items
    ∙ ap (λ s. b.struck.items ++ s ∷ []) c.one_strike-strike.ensures)
    ∙ struck_beside b.plan b.bits b.struck.items c.args.node c.args.bit in
    λ i. session_of b.room (run_is c i) (plan i) (listed b.steps.items) b.turns.items

at_them : (c : After-push) (step_runs : List (List StepRun)) → IsAt (was c) step_runs →
    IsAt (struck_session (was c) c.args.node c.args.bit) step_runs
at_them c step_runs h = struck_at_them (was c) c.args.node c.args.bit c.strike.new.self step_runs (run_is c)
    (subst (λ (s : Strike). StandsBy (struck_setup (setup_by (was c)) s) c.strike.new.self step_runs)
    c.one_strike-strike.ensures (c.in_ok-strike.ensures.by (setup_by (was c)) step_runs h.stands)) h

pub invariant_of-self-2 : goal.invariant_of-self-2
invariant_of-self-2 c =
    let at = (goal.at.invariant_of-self-2 c).After-push in let inv = c.self.invariant.0 in let b = c.self.inside in
    let far = subst (λ (s : SessionValue). IsEndless s) (sym c.self.view_is) c.requires.endless in (
      subst (λ (s : SessionValue). IsSession s (rooms_of b.steps.items) (vec_capacity b.turns)) (sym (now_is at))
          (session_at (struck_run b.run (one_strike c.args.node c.args.bit))
          (struck_session (was at) c.args.node c.args.bit).plan.strikes inv (at_them at inv.step_runs inv.at)),
      goes_beside b.plan b.bits b.struck c.push.new.self c.limits.ensures.bits.1 far c.push.ensures.room
          c.self.invariant.1,
    )

pub returns-clause-struck : goal.returns-clause-struck
returns-clause-struck c = λ step_runs h.
    let at = (goal.at.returns-clause-struck c).After-push in
    let own = subst (λ (s : SessionValue). IsAt s step_runs) (sym c.self.view_is) h in
    subst (λ (s : SessionValue). IsStruck s (now at) c.args.node c.args.bit step_runs) c.self.view_is (record {
      ahead = subst (λ (s : SessionValue). s.run.bits ≤ c.args.bit) (sym c.self.view_is) c.requires.ahead;
      is = now_is at;
      at = subst (λ (s : SessionValue). IsAt s step_runs) (sym (now_is at)) (at_them at step_runs own);
      wrote = ap written (now_is at);
    })
