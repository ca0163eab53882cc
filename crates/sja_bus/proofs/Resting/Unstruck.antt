-- Bits in none of which a script strikes one of eight nodes, and more of them.
use Rattle.std.proofs.Common.{◌≡◌, ℕ, ◌+◌, ◌-◌, ◌<◌, List, inl, inr, arith, subst}
use Rattle.std.proofs.lemmas.Bool.{cases_lt}
use Rattle.sja_steps.specs.declared.strike.Strike.{Strike}
use Rattle.sja_steps.specs.Striking.{Strikes}

-- one bit in which none is struck
pub none_now : (script : List Strike) (from run : ℕ) →
    ((node : ℕ) → node < 8 → Strikes script (from + run) node → ⊥) →
    (i node : ℕ) → i < 1 → node < 8 → Strikes script (from + (run + i)) node → ⊥
none_now script from run none i node low few strikes =
    let at : from + (run + i) ≡ from + run = omega (arith, low) in
    none node few (subst (λ b. Strikes script b node) at strikes)

-- so many, and then so many more
pub none_more : (script : List Strike) (from run n : ℕ) →
    ((i node : ℕ) → i < run → node < 8 → Strikes script (from + i) node → ⊥) →
    ((i node : ℕ) → i < n → node < 8 → Strikes script (from + (run + i)) node → ⊥) →
    (i node : ℕ) → i < run + n → node < 8 → Strikes script (from + i) node → ⊥
none_more script from run n before more i node low few strikes = elim (cases_lt i run) [
  | inl early ↦ before i node early few strikes
  | inr late ↦ let at : from + i ≡ from + (run + (i - run)) = omega (arith, late) in
      more (i - run) node (omega (arith, late, low)) few (subst (λ b. Strikes script b node) at strikes)
]
