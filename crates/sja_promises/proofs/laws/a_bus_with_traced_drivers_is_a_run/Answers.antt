use Rattle.sja_promises.proofs.NodeLog.Logs.{run_of}
use Rattle.sja_promises.proofs.laws.a_bus_with_traced_drivers_is_a_run.Goals as goal

pub returns : goal.returns
returns c = run_of
