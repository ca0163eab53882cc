use Rattle.sja_plan_reading.proofs.OneReading.OnePlan.{one_plan}
use Rattle.sja_plan_reading.proofs.laws.bytes_are_one_plan.Goals as goal

pub returns : goal.returns
returns c = one_plan
