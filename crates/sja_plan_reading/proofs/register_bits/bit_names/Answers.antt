use Rattle.std.proofs.Common.{rules, refl}
use Rattle.sja_plan_reading.specs.BitNames.{bit_names}
use Rattle.sja_plan_reading.proofs.register_bits.bit_names.Goals as goal

pub loop-row-init : goal.loop-row-init
unfolding bit_names
loop-row-init c = refl
