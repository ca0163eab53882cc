use Rattle.std.proofs.Common.{◌≡◌, ◌≤◌, List, vec_capacity, sym, ap, ◌∙◌, subst}
use Rattle.sja_plan.specs.Plan.{PlanValue}
use Rattle.sja_plan.specs.Struck.{one_strike}
use Rattle.sja_steps.specs.declared.strike.Strike.{Strike}
use Rattle.sja_driver.specs.StepRuns.{StepRun}
use Rattle.sja_serial.specs.Serial.{StandsBy}
use Rattle.sja_serial.specs.Striking.{struck_run, struck_setup}
use Rattle.sja_session.specs.Inside.Written.{GoesBy}
use Rattle.sja_session.specs.Sessions.{SessionValue, HasEnd, IsAt, IsSession, plan_with, session_of, setup_by, written}
use Rattle.sja_session.specs.Striking.{IsStruck, struck_session}
use Rattle.sja_session.proofs.BitsDone.AfterBits.{session_at}
use Rattle.sja_session.proofs.StruckOnce.{none_beside, still_goes, struck_at_them, struck_own}
use Rattle.sja_session.proofs.WrittenPlan.OneMore.{listed, rooms_of}
use Rattle.sja_session.proofs.session.Session.strike.Goals.{In-Ok-strike}
use Rattle.sja_session.proofs.session.Session.strike.Goals as goal

-- the session as it was, and as it is
abbrev was : In-Ok-strike → SessionValue
was c = session_of c.self.inside.room c.self.inside.run
    (plan_with c.self.inside.plan c.self.inside.bits c.self.inside.struck.items) (listed c.self.inside.steps.items)
    c.self.inside.turns.items

abbrev now : In-Ok-strike → SessionValue
now c = session_of c.self.inside.room c.strike-2.new.self
    (plan_with c.strike.new.self c.self.inside.bits c.self.inside.struck.items) (listed c.self.inside.steps.items)
    c.self.inside.turns.items

-- it has an end, and holds no strikes beside its plan
with_end : (c : In-Ok-strike) → HasEnd (was c)
with_end c = subst (λ (s : SessionValue). HasEnd s) (sym c.self.view_is)
    (c.is_endless.ensures.no c.if-is_endless.false)

-- it is the session as it was with the strike
run_is : (c : In-Ok-strike) → c.strike-2.new.self ≡ struck_run c.self.inside.run (one_strike c.args.node c.args.bit)
run_is c = c.in-Ok-strike.ensures.struck ∙ ap (struck_run c.self.inside.run) c.one_strike.ensures

now_is : (c : In-Ok-strike) → now c ≡ struck_session (was c) c.args.node c.args.bit
now_is c =
    let b = c.self.inside in
    let plan = ap (λ p. plan_with p b.bits b.struck.items) c.in-Ok.ensures.struck
    ∙ struck_own b.plan b.bits b.struck.items c.args.node c.args.bit
    (none_beside b.plan b.bits b.struck (with_end c) c.self.invariant.1) in
    λ i. session_of b.room (run_is c i) (plan i) (listed b.steps.items) b.turns.items

at_them : (c : In-Ok-strike) (step_runs : List (List StepRun)) → IsAt (was c) step_runs →
    IsAt (struck_session (was c) c.args.node c.args.bit) step_runs
at_them c step_runs h = struck_at_them (was c) c.args.node c.args.bit c.strike-2.new.self step_runs (run_is c)
    (subst (λ (s : Strike). StandsBy (struck_setup (setup_by (was c)) s) c.strike-2.new.self step_runs)
    c.one_strike.ensures (c.in-Ok-strike.ensures.by (setup_by (was c)) step_runs h.stands)) h

pub invariant_of-self-in-Ok-strike : goal.invariant_of-self-in-Ok-strike
invariant_of-self-in-Ok-strike c =
    let at = (goal.at.invariant_of-self-in-Ok-strike c).In-Ok-strike in let inv = c.self.invariant.0 in
    let b = c.self.inside in (
      subst (λ (s : SessionValue). IsSession s (rooms_of b.steps.items) (vec_capacity b.turns)) (sym (now_is at))
          (session_at (struck_run b.run (one_strike c.args.node c.args.bit))
          (struck_session (was at) c.args.node c.args.bit).plan.strikes inv (at_them at inv.step_runs inv.at)),
      subst (λ (p : PlanValue). GoesBy p b.bits b.struck) (sym c.in-Ok.ensures.struck)
          (still_goes b.plan b.bits b.struck c.args.node c.args.bit (with_end at) c.self.invariant.1),
    )

pub returns-in-Ok-strike-clause-struck : goal.returns-in-Ok-strike-clause-struck
returns-in-Ok-strike-clause-struck c = λ step_runs h.
    let at = (goal.at.returns-in-Ok-strike-clause-struck c).In-Ok-strike in
    let own = subst (λ (s : SessionValue). IsAt s step_runs) (sym c.self.view_is) h in
    subst (λ (s : SessionValue). IsStruck s (now at) c.args.node c.args.bit step_runs) c.self.view_is (record {
      ahead = subst (λ (s : SessionValue). s.run.bits ≤ c.args.bit) (sym c.self.view_is)
          c.in_ok-check_bit.ensures.ahead.1;
      is = now_is at;
      at = subst (λ (s : SessionValue). IsAt s step_runs) (sym (now_is at)) (at_them at step_runs own);
      wrote = ap written (now_is at);
    })
