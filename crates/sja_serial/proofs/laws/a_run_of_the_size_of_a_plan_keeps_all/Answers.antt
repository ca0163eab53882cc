use Rattle.sja_serial.proofs.WholeRun.Kept.{keeps_run}
use Rattle.sja_serial.proofs.laws.a_run_of_the_size_of_a_plan_keeps_all.Goals as goal

pub returns : goal.returns
returns c = λ setup r step_runs stands kept. keeps_run setup r step_runs stands kept
