use Rattle.std.proofs.Common.{◌≡◌, ◌<◌, ◌≤◌, ◌+◌, ◌⊎◌, ℕ, refl, arith, inl, inr}
use Rattle.std.proofs.lemmas.Bool.{cases_lt}
use Rattle.sja_promises.specs.Turns.{Acts, IsLineDown, IsLineUp, Progress, acts_by, entries_by}
use Rattle.sja_laws.proofs.WholeRun.Lines.{two_lines}
use Rattle.sja_laws.proofs.resting.irq_runs_one_number_of_bits.Goals as goal

-- the one with fewer bits doesn't end there
ends_later : (r : Acts) (p : Progress) (k most n m : ℕ) → m ≤ most → (n ≡ most) ⊎ IsLineUp r p k (p.bits + n) →
    ((i : ℕ) → i < m → IsLineDown r p k (p.bits + i)) → n < m → ⊥
ends_later r p k most n m few (inl is) down fewer = omega (arith, is, fewer, few)
ends_later r p k most n m few (inr up) down fewer =
    two_lines r.plan.version (entries_by r p k (p.bits + n)) (entries_by r p k (p.bits + n)) (acts_by r p k)
    (acts_by r p k) refl refl (down n fewer) up

pub returns : goal.returns
returns c = λ r p k most n m few less down ends dark stops. elim (cases_lt n m) [
  | inl fewer ↦ absurd (ends_later r p k most n m less ends dark fewer)
  | inr more ↦ elim (cases_lt m n) [
    | inl fewer ↦ absurd (ends_later r p k most m n few stops down fewer)
    | inr same ↦ omega (arith, more, same)
  ]
]
