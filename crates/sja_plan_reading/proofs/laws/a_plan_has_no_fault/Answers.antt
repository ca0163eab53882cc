use Rattle.sja_plan_reading.proofs.OneReading.OneFault.{no_fault}
use Rattle.sja_plan_reading.proofs.laws.a_plan_has_no_fault.Goals as goal

pub returns : goal.returns
returns c = no_fault
