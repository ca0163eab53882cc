use Rattle.sja_laws.proofs.WholeRun.Logs.{log_once}
use Rattle.sja_laws.proofs.one_log.a_plan_has_one_log.Goals as goal

pub returns : goal.returns
returns c = log_once
