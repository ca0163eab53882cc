use Rattle.std.proofs.Common.{IfOk, Result, subst}
use Rattle.sja_session.specs.declared.no_plan.NoPlan.{NoPlan}
use Rattle.sja_plan.specs.Plan.{PlanValue}
use Rattle.sja_log.specs.Log.{RunValue}
use Rattle.sja_promises.specs.Runs.{IsSerialRun}
use Rattle.sja_log.specs.declared.run_fault.RunFault.{RunFault}
use Rattle.sja_laws.proofs.WholeRun.Logs.{log_once}
use Rattle.sja_laws.proofs.one_log.a_session_replays.Goals as goal

pub returns : goal.returns
returns c = λ x y plan own log h e g f.
    let P : Result (PlanValue × RunValue) NoPlan → Type 0 = λ r. IfOk r (λ both. IsSerialRun both.0 both.1) in
    let Q : Result RunValue RunFault → Type 0 = λ r. IfOk r (λ again. IsSerialRun plan again) in
    log_once plan own log (subst P e h) (subst Q f g)
