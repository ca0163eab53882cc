use Rattle.sja_plan_reading.proofs.OneReading.OneFault.{one_fault}
use Rattle.sja_plan_reading.proofs.laws.bytes_have_one_first_fault.Goals as goal

pub returns : goal.returns
returns c = one_fault
