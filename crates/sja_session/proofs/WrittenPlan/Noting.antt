-- Whether turns are taken down of a session.
use Rattle.std.proofs.Common.{◌≡◌, Bool, true, false, refl, sym, subst, arith}
use Rattle.std.specs.Prelude.{not}
use Rattle.sja_session.specs.Sessions.{SessionValue, HasEnd, IsEndless}

-- they are where it has an end, and not where it hasn't

module _ (endless : Bool) (s seen : SessionValue) (view : s ≡ seen) (yes : endless ≡ true → IsEndless seen)
    (no : endless ≡ false → HasEnd seen) where
  pub end_of : not endless ≡ true → HasEnd s
  end_of = by endless refl
    where
      by : (b : Bool) → endless ≡ b → not b ≡ true → HasEnd s
      by true e noted = absurd cc
      by false e noted = subst (λ (x : SessionValue). HasEnd x) (sym view) (no e)

  pub noted_of : HasEnd s → not endless ≡ true
  noted_of end = by endless refl
    where
      by : (b : Bool) → endless ≡ b → not b ≡ true
      by true e = let far = subst (λ (x : SessionValue). IsEndless x) (sym view) (yes e) in
          absurd (omega (arith, end, far))
      by false e = refl

  pub not_noted_of : IsEndless s → not endless ≡ false
  not_noted_of far = by endless refl
    where
      by : (b : Bool) → endless ≡ b → not b ≡ false
      by true e = refl
      by false e = let end = subst (λ (x : SessionValue). HasEnd x) (sym view) (no e) in
          absurd (omega (arith, end, far))
