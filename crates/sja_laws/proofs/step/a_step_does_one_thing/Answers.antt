use Rattle.sja_laws.proofs.OneNode.OneStepRun.{step_run_alike}
use Rattle.sja_laws.proofs.step.a_step_does_one_thing.Goals as goal

pub returns : goal.returns
returns c = step_run_alike
