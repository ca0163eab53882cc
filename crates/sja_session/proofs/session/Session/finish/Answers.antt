use Rattle.std.proofs.Common.{rules, ◌≡◌, ◌∙◌, List, Err, refl, sym, ap, subst}
use Rattle.lemmas.proofs.Results.{err_is}
use Rattle.sja_driver.specs.StepRuns.{StepRun}
use Rattle.sja_log.specs.declared.no_log.NoLog.{NoLog}
use Rattle.sja_log.specs.declared.no_log.NoLog.TheVariants.{Endless as NoEnd, Memory as NoMemory}
use Rattle.sja_promises.specs.Runs.{IsSerialRun}
use Rattle.sja_plan.specs.Plan.{PlanValue}
use Rattle.sja_log.specs.declared.end.End.TheVariants.{Turns as TurnsDone}
use Rattle.sja_serial.specs.Ending.{IsLogOf, MayBeOf}
use Rattle.sja_serial.specs.LoggedRuns.{KeepsRun}
use Rattle.sja_serial.specs.Serial.{Setup}
use Rattle.sja_serial.proofs.AllNodes.Several.{by_own, many_steps, setup_is}
use Rattle.sja_serial.proofs.WholeRun.Kept.{keeps_run}
use Rattle.sja_serial.proofs.WholeRun.Whole.{serial_of}
use Rattle.sja_session.specs.Ending.{IsNoPlan, no_plan_for}
use Rattle.sja_session.specs.Sessions.{SessionValue, HasEnd, IsAt, written, plan_with, session_of}
use Rattle.sja_session.proofs.Lifetime.Finished.{kept_by, may_be_written, turns_lead}
use Rattle.sja_session.proofs.WrittenPlan.OneMore.{listed}
use Rattle.sja_session.proofs.session.Session.finish.Goals.{In_ok-log}
use Rattle.sja_session.proofs.session.Session.finish.Goals as goal

pub finish-requires : goal.finish-requires
finish-requires c = let inv = c.self.invariant.0 in (inv.step_runs, by_own inv.at.stands)

-- ---- the session as it was

abbrev was : In_ok-log → SessionValue
was c = session_of c.self.inside.room c.self.inside.run
    (plan_with c.self.inside.plan c.self.inside.bits c.self.inside.struck.items) (listed c.self.inside.steps.items)
    c.self.inside.turns.items

-- it has an end, since it has a plan
with_end : (c : In_ok-log) → HasEnd (was c)
with_end c = subst (λ (x : SessionValue). HasEnd x) (sym c.self.view_is) c.in_ok-plan.ensures.end

log_is : (c : In_ok-log) (step_runs : List (List StepRun)) → IsAt (was c) step_runs →
    IsLogOf (written (was c)) c.self.inside.run step_runs TurnsDone c.in_ok-log.log
log_is c step_runs h = c.in_ok-log.ensures.log (written (was c)) step_runs (by_own h.stands)
    (subst (λ (s : Setup). MayBeOf (written (was c)) s step_runs) (setup_is h.stands.stands)
    (may_be_written (was c) step_runs (with_end c) h))

plan_is : (c : In_ok-log) → c.in_ok-plan.plan ≡ written (was c)
plan_is c = c.in_ok-plan.ensures.plan ∙ ap written (sym c.self.view_is)

pub returns-clause-own : goal.returns-clause-own
returns-clause-own c = λ step_runs h.
    let at = (goal.at.returns-clause-own c).In_ok-log in
    let own = subst (λ (x : SessionValue). IsAt x step_runs) (sym c.self.view_is) h in
    subst (λ (x : SessionValue). IsLogOf c.in_ok-plan.plan x.run step_runs TurnsDone c.in_ok-log.log) c.self.view_is
    (subst (λ (p : PlanValue). IsLogOf p c.self.inside.run step_runs TurnsDone c.in_ok-log.log) (sym (plan_is at))
    (log_is at step_runs own))

pub returns-clause-headline : goal.returns-clause-headline
returns-clause-headline c = λ k d less.
    let at = (goal.at.returns-clause-headline c).In_ok-log in let inv = c.self.invariant.0 in
    ((log_is at inv.step_runs inv.at).run.nodes k d less).account

pub returns-clause-run : goal.returns-clause-run
returns-clause-run c =
    let at = (goal.at.returns-clause-run c).In_ok-log in let inv = c.self.invariant.0 in
    let s = was at in
    subst (λ (p : PlanValue). IsSerialRun p c.in_ok-log.log) (sym (plan_is at))
    (serial_of (written s) s.run inv.step_runs TurnsDone c.in_ok-log.log (many_steps inv.at.stands)
    (log_is at inv.step_runs inv.at) (turns_lead s inv.step_runs inv.at (with_end at)))

-- ---- why there is no log

-- its run keeps all, since it has an end: so where its log is refused that is for memory
no_log : (s : SessionValue) (n : NoLog) → (n ≡ NoEnd → ⊥) → HasEnd s → IsNoPlan s (no_plan_for n)
no_log s NoEnd kept end = absurd (kept refl)
no_log s NoMemory kept end = end

pub returns-in_err-log-clause-err : goal.returns-in_err-log-clause-err
returns-in_err-log-clause-err c =
    let n = c.in_err-log.field-0.0 in let inv = c.self.invariant.0 in
    let end = subst (λ (x : SessionValue). HasEnd x) (sym c.self.view_is) c.in_ok-plan.ensures.end in
    let kept : KeepsRun c.self.inside.run = keeps_run _ c.self.inside.run inv.step_runs inv.at.stands
    (kept_by _ _ _ inv end) in
    let is : c.from_residual-in_err-log.result ≡ Err (no_plan_for n) = search rules in
    err_is (IsNoPlan c.args.self) c.from_residual-in_err-log.result (no_plan_for n) is (no_log c.args.self n
    (λ e. c.finish.ensures.endless (c.in_err-log.was ∙ ap (λ (x : NoLog). Err x) e) kept) c.in_ok-plan.ensures.end)
