use Rattle.std.proofs.Common.{arith, inl, inr}
use Rattle.std.proofs.lemmas.Bool.{cases_lt}
use Rattle.sja_laws.proofs.resting.rest_runs_one_number_of_bits.Goals as goal

pub returns : goal.returns
returns c = λ r p n m busy still working calm. elim (cases_lt n m) [
  | inl fewer ↦ absurd (working n fewer still)
  | inr more ↦ elim (cases_lt m n) [
    | inl fewer ↦ absurd (busy m fewer calm)
    | inr less ↦ omega (arith, more, less)
  ]
]
