use Rattle.std.proofs.Common.{sym, arith}
use Rattle.sja_laws.proofs.WholeRun.Late.{round_bits}
use Rattle.sja_laws.proofs.resting.a_round_of_go_runs_no_bit.Goals as goal

pub returns : goal.returns
returns c = λ r p q round. (
  sym (round_bits r 0 p q round),
  λ some none. let left = some.2 in let over = none some.0 some.1 in omega (arith, left, over),
)
