-- Runs of equal levels in a list that has its newest level first.
use Rattle.std.proofs.Common.{◌+◌, ◌≡◌, ◌≢◌, ◌≤◌, inl, inr, ℕ, zero, suc, Bool, true, false, if◌then◌else◌, List, []}
use Rattle.std.proofs.Common.{◌∷◌, ◌++◌, reverse, replicate, drop, refl, ap, sym, subst, ◌∙◌, arith, append_assoc}
use Rattle.std.proofs.lemmas.Bool.{cases_Bool, cases_lt}
use Rattle.std.proofs.lemmas.List.{append-nil, reverse-append, reverse-reverse}
use Rattle.can_levels.specs.declared.level.Level.{Level}
use Rattle.can_levels.specs.declared.level.Level.TheVariants.{Dominant, Recessive}
use Rattle.can_levels.specs.Stuffing.{EndsInEqual, HasNoSixEqual}
use Rattle.lemmas.proofs.Lists.{reverse-cons, reverse-replicate}

-- whether two levels are equal
abbrev pub same : Level → Level → Bool
same Dominant Dominant = true
same Recessive Recessive = true
same Dominant Recessive = false
same Recessive Dominant = false

pub same-refl : (x : Level) → same x x ≡ true
same-refl Dominant = refl
same-refl Recessive = refl

pub same-true : (x y : Level) → same x y ≡ true → x ≡ y
same-true Dominant Dominant h = refl
same-true Recessive Recessive h = refl
same-true Dominant Recessive h = cc
same-true Recessive Dominant h = cc

pub same-other : (x y : Level) → x ≢ y → same x y ≡ false
same-other Dominant Dominant h = absurd (h refl)
same-other Recessive Recessive h = absurd (h refl)
same-other Dominant Recessive h = refl
same-other Recessive Dominant h = refl

-- how many levels x a list begins with
abbrev pub lead : Level → List Level → ℕ
lead x [] = 0
lead x (y ∷ past) = if same x y then suc (lead x past) else 0

-- how many equal levels a list begins with
abbrev pub run : List Level → ℕ
run [] = 0
run (x ∷ past) = suc (lead x past)

-- no level is the sixth of equal ones
abbrev pub IsShort : List Level → Type 0
IsShort [] = Unit {0}
IsShort (x ∷ past) = (run (x ∷ past) ≤ 5) × IsShort past

-- copies of x lead a list that begins with them
lead-replicate : (n : ℕ) (x : Level) (past : List Level) → n ≤ lead x (replicate n x ++ past)
lead-replicate zero x past = omega arith
lead-replicate (suc n) x past = let more = lead-replicate n x past in rw (same-refl x) (omega (arith, more))

-- a list that is led by n levels x begins with as many copies
lead_splits : (n : ℕ) (x : Level) (past : List Level) → n ≤ lead x past → past ≡ replicate n x ++ drop n past
lead_splits zero x past h = refl
lead_splits (suc n) x [] h = absurd (omega arith)
lead_splits (suc n) x (y ∷ past) h =
    elim (cases_Bool (same x y)) [
      | inl t ↦ let more : n ≤ lead x past =
          omega (arith, subst (λ b. suc n ≤ (if b then suc (lead x past) else 0)) t h) in
          let e = same-true x y t in
          let rest = lead_splits n x past more in cc
      | inr f ↦ absurd (omega (arith, subst (λ b. suc n ≤ (if b then suc (lead x past) else 0)) f h))
    ]

-- a level like the first one makes the run longer
pub run-same : (x : Level) (past : List Level) → run (x ∷ x ∷ past) ≡ suc (run (x ∷ past))
run-same x past = rw (same-refl x) refl

-- another level begins a run
pub run-other : (x y : Level) (past : List Level) → x ≢ y → run (x ∷ y ∷ past) ≡ 1
run-other x y past h = rw (same-other x y h) refl

-- a level makes the run longer by one at most
pub run_one_more : (x : Level) (past : List Level) → run (x ∷ past) ≤ run past + 1
run_one_more x [] = omega arith
run_one_more x (y ∷ past) =
    elim (cases_Bool (same x y)) [
      | inl t ↦ let e = ap (λ z. run (z ∷ y ∷ past)) (same-true x y t) ∙ run-same y past in omega (arith, e)
      | inr f ↦ rw f (omega arith)
    ]

-- a list with the newest level first begins with n equal levels where its reverse ends in them
pub ends_in_run : (n : ℕ) (past : List Level) → EndsInEqual (suc n) (reverse past) → suc n ≤ run past
ends_in_run n past (before, x, e) =
    let turned : past ≡ replicate (suc n) x ++ reverse before =
    sym (reverse-reverse past) ∙ ap reverse e ∙ reverse-append before (replicate (suc n) x)
    ∙ ap (λ l. l ++ reverse before) (reverse-replicate (suc n) x) in
    let long = lead-replicate n x (reverse before) in
    rw turned (omega (arith, long))

-- and the other way round
pub run_ends : (n : ℕ) (past : List Level) → n ≤ run past → EndsInEqual n (reverse past)
run_ends zero past h = (reverse past, Dominant, sym (append-nil (reverse past)))
run_ends (suc n) [] h = absurd (omega arith)
run_ends (suc n) (x ∷ past) h =
    let split : past ≡ replicate n x ++ drop n past = lead_splits n x past (omega arith) in (
      reverse (drop n past),
      x,
      ap (λ l. reverse (x ∷ l)) split ∙ reverse-append (replicate (suc n) x) (drop n past)
          ∙ ap (λ l. reverse (drop n past) ++ l) (reverse-replicate (suc n) x),
    )

-- a list without six equal levels, newest first
pub short_from : (past : List Level) → HasNoSixEqual (reverse past) → IsShort past
short_from [] h = tt
short_from (x ∷ past) h = (
  elim (cases_lt (run (x ∷ past)) 6) [
    | inl few ↦ omega (arith, few)
    | inr many ↦ let six = run_ends 6 (x ∷ past) many in
        absurd (h six.0 [] six.1 (six.2 ∙ ap (λ l. six.0 ++ l) (sym (append-nil (replicate 6 six.1)))))
  ],
  short_from past (λ before after y e. h before (after ++ x ∷ []) y
      (reverse-cons x past ∙ ap (λ l. l ++ x ∷ []) e ∙ append_assoc before (replicate 6 y ++ after) (x ∷ [])
      ∙ ap (λ l. before ++ l) (append_assoc (replicate 6 y) after (x ∷ [])))),
)

-- nowhere in such a list are there six equal ones
none_within : (front : List Level) (past back : List Level) (y : Level) → IsShort past →
    past ≡ front ++ (replicate 6 y ++ back) → ⊥
none_within [] past back y h e =
    let six = lead-replicate 5 y back in
    let P : List Level → Type 0 = λ l. IsShort l in
    let s : IsShort (y ∷ (replicate 5 y ++ back)) = subst P e h in
    omega (arith, s.0, six)
none_within (z ∷ front) past back y h e =
    let P : List Level → Type 0 = λ l. IsShort l in
    let s : IsShort (z ∷ (front ++ (replicate 6 y ++ back))) = subst P e h in
    none_within front (front ++ (replicate 6 y ++ back)) back y s.1 refl

pub no_six_from : (past : List Level) → IsShort past → HasNoSixEqual (reverse past)
no_six_from past h before after y e =
    none_within (reverse after) past (reverse before) y h
    (sym (reverse-reverse past) ∙ ap reverse e ∙ reverse-append before (replicate 6 y ++ after)
    ∙ ap (λ l. l ++ reverse before)
    (reverse-append (replicate 6 y) after ∙ ap (λ l. reverse after ++ l) (reverse-replicate 6 y))
    ∙ append_assoc (reverse after) (replicate 6 y) (reverse before))
