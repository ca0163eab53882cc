use Rattle.std.proofs.Common.{arith}
use Rattle.can_bits.proofs.shift.Shift.gather_unless_stuff.Goals as goal

pub returns-else-self-ne-RUN-clause-stuff_bit : goal.returns-else-self-ne-RUN-clause-stuff_bit
returns-else-self-ne-RUN-clause-stuff_bit c five = grind arith
