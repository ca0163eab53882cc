-- A list that has no number more often than another one has it is no longer.
use Rattle.std.proofs.Common.{◌≡◌, ◌≢◌, ◌+◌, ◌≤◌, ◌==◌, ℕ, cond, List, [], ◌∷◌, ◌++◌, length, refl, ap}
use Rattle.std.proofs.Common.{arith, inl, inr}
use Rattle.std.proofs.lemmas.Bool.{cases_eq, eq-eqb, ne_eqb}
use Rattle.std.proofs.lemmas.List.{length-append}
use Rattle.lemmas.specs.Gathering.{total}
use Rattle.lemmas.proofs.Gathered.{total_append}

-- 1 for this number
abbrev pub is_it : ℕ → ℕ → ℕ
is_it a x = cond (x == a) 1 0

pub one_is : (a x : ℕ) → x ≡ a → is_it a x ≡ 1
one_is a x e = ap (λ b. cond b 1 0) (eq-eqb x a e)

pub none_is : (a x : ℕ) → x ≢ a → is_it a x ≡ 0
none_is a x n = ap (λ b. cond b 1 0) (ne_eqb x a n)

-- what stands before it, and behind it
record Found (a : ℕ) (xs : List ℕ) : Type 0 where
  before : List ℕ
  after : List ℕ
  whole : xs ≡ before ++ a ∷ after

found : (a : ℕ) (xs : List ℕ) → 1 ≤ total (is_it a) xs → Found a xs
found a [] some = absurd (omega (arith, some))
found a (x ∷ xs) some = elim (cases_eq x a) [
  | inl e ↦ record { before = []; after = xs; whole = ap (λ y. y ∷ xs) e }
  | inr n ↦
      let none = none_is a x n in let rest = found a xs (omega (arith, some, none)) in record {
        before = x ∷ rest.before;
        after = rest.after;
        whole = ap (λ l. x ∷ l) rest.whole;
      }
]

pub no_longer : (xs ys : List ℕ) → ((a : ℕ) → total (is_it a) xs ≤ total (is_it a) ys) → length xs ≤ length ys
no_longer [] ys few = omega arith
no_longer (x ∷ xs) ys few =
    let here = few x in let one = one_is x x refl in
    let out = found x ys (omega (arith, here, one)) in
    let rest = no_longer xs (out.before ++ out.after) (λ a.
    let more = few a in let all = ap (total (is_it a)) out.whole in
    let split = total_append (is_it a) out.before (x ∷ out.after) in
    let joined = total_append (is_it a) out.before out.after in omega (arith, more, all, split, joined)) in
    let all = ap (λ (l : List ℕ). length l) out.whole in
    omega (arith, rest, all, length-append out.before (x ∷ out.after), length-append out.before out.after)
