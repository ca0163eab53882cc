use Rattle.std.proofs.Common.{sym}
use Rattle.std.proofs.lemmas.Result.{err_from_is_err_and}
use Rattle.sja_program.proofs.PlanAnswers.PlanRefusals.{plan_refused}
use Rattle.sja_run.proofs.threaded_sweeps.told_sweep_jobs.Goals as goal

-- the text is that of a sweep of the plan that was read
pub returns-clause-ok : goal.returns-clause-ok
returns-clause-ok g c =
    let holds = c.in_ok-plan.ensures.ok in
    let plan = c.in_ok-plan.plan in
    let swept = c.in_ok-text.ensures.ok plan (rw (sym c.sweeping_of.ensures) c.sweep_jobs-swept.ensures.ok) in
    (holds.0, plan, holds.1, holds.2, rw c.into_bytes.ensures.value swept)

-- and so is the refusal
pub returns-in_err-text-clause-err : goal.returns-in_err-text-clause-err
returns-in_err-text-clause-err g c =
    let told = err_from_is_err_and c.from_residual-in_err-text.result c.from_residual-in_err-text.ensures.1 in
    let plan = c.in_ok-plan.plan in
    let why = c.in_err-text.ensures.err plan (rw (sym c.sweeping_of.ensures) c.sweep_jobs-swept.ensures.err) in
    rw (told.1, told.2) (plan_refused _ _ _ plan _ c.in_ok-plan.ensures.ok why)
