use Rattle.std.proofs.Common.{IfOk, Result, subst}
use Rattle.sja_log.specs.Log.{RunValue}
use Rattle.sja_promises.specs.Runs.{IsSerialRun}
use Rattle.sja_log.specs.declared.run_fault.RunFault.{RunFault}
use Rattle.sja_laws.proofs.WholeRun.Logs.{log_once}
use Rattle.sja_laws.proofs.one_log.a_plan_that_is_run_again_has_the_same_log.Goals as goal

pub returns : goal.returns
returns c = λ plan x y a b h g e f.
    let P : Result RunValue RunFault → Type 0 = λ r. IfOk r (λ log. IsSerialRun plan log) in
    log_once plan a b (subst P e h) (subst P f g)
