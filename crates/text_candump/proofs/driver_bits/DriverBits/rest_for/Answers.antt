use Rattle.std.proofs.Common.{rules, arith}
use Rattle.text_candump.proofs.driver_bits.DriverBits.rest_for.Goals as goal

pub returns-clause-rests : goal.returns-clause-rests
returns-clause-rests c = λ some. record {
  some = omega (arith, some);
  on = search rules;
  rests = c.rest_for.ensures.rests some;
}
