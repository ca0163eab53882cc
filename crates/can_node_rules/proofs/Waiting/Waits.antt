-- Lists that wait for a number of equal levels, and lists that end with the first of their kind: neither has a proper
-- front of its kind.
use Rattle.std.proofs.Common.{◌≡◌, ◌≢◌, ◌<◌, inl, inr, ℕ, zero, suc, List, []}
use Rattle.std.proofs.Common.{◌∷◌, ◌++◌, replicate, refl, ap, sym, ◌∙◌, arith}
use Rattle.std.proofs.lemmas.List.{append_assoc, append-nil}
use Rattle.can_levels.specs.declared.level.Level.{Level}
use Rattle.lemmas.proofs.Lists.{fronts, append-cancel}
use Rattle.can_node_rules.specs.Bits.{IsFirst}
use Rattle.can_node_rules.specs.Table.{EndsInEleven, Elevens}
use Rattle.can_node_rules.specs.Table.Elevens.{none_left, one_more}

-- two fronts of one list that are the first of their kind are equal
pub first_once : {A : Type 0} (P : List A → Type 0) (a b x y : List A) → IsFirst P a → IsFirst P b → a ++ x ≡ b ++ y →
    a ≡ b
first_once P a b x y h k e =
    elim (fronts a b x y e) [
      | inl longer ↦
          let none = k.first a (longer.0) (longer.1) h.holds in
          sym (longer.1 ∙ ap (λ t. a ++ t) none ∙ append-nil a)
      | inr shorter ↦
          let none = h.first b (shorter.0) (shorter.1) k.holds in
          shorter.1 ∙ ap (λ t. b ++ t) none ∙ append-nil b
    ]

-- and so are two fronts of which each is n such lists one after the other
pub elevens_once : (n : ℕ) (l k x y : List Level) → Elevens n l → Elevens n k → l ++ x ≡ k ++ y → l ≡ k
elevens_once n l k x y none_left none_left e = refl
elevens_once n l k x y (one_more {n = m} {a = a} {b = b} h more parts) (one_more {a = c} {b = d} g others pieces) e =
    let lines : a ++ (b ++ x) ≡ c ++ (d ++ y) = sym (append_assoc a b x) ∙ ap (λ t. t ++ x) (sym parts) ∙ e
    ∙ ap (λ t. t ++ y) pieces ∙ append_assoc c d y in
    let same : a ≡ c = first_once EndsInEleven a c (b ++ x) (d ++ y) h g lines in
    let rest : b ++ x ≡ d ++ y = append-cancel a (b ++ x) (d ++ y) (lines ∙ ap (λ t. t ++ (d ++ y)) (sym same)) in
    let tails : b ≡ d = elevens_once m b d x y more others rest in
    parts ∙ ap (λ t. t ++ b) same ∙ ap (λ t. c ++ t) tails ∙ sym pieces

-- so many levels u, or fewer of them, i, and then v
pub data IsWait (u v : Level) (count : ℕ) : ℕ → List Level → Type 0 where
  whole : IsWait u v count count (replicate count u)
  cut_off : (i : ℕ) → i < count → IsWait u v count i (replicate i u ++ v ∷ [])

-- n levels u don't go on as fewer levels u and then v
pub too_few : (u v : Level) → u ≢ v → (n j : ℕ) (x y : List Level) → j < n →
    replicate n u ++ x ≡ replicate j u ++ v ∷ y → ⊥
too_few u v other zero j x y less e = omega arith
too_few u v other (suc n) zero x y less e = other cc
too_few u v other (suc n) (suc j) x y less e = too_few u v other n j x y (omega arith) cc

-- the number of leading levels is the list's, and so is what follows them
pub leading : (u v : Level) → u ≢ v → (i j : ℕ) (x y : List Level) → replicate i u ++ v ∷ x ≡ replicate j u ++ v ∷ y →
    (i ≡ j) × (x ≡ y)
leading u v other zero zero x y e = (refl, cc)
leading u v other zero (suc j) x y e = absurd (other cc)
leading u v other (suc i) zero x y e = absurd (other cc)
leading u v other (suc i) (suc j) x y e = let h = leading u v other i j x y cc in (ap suc h.0, h.1)

-- of two fronts of one list that wait for so many levels each has as many of them, and they are equal
pub wait_once : (u v : Level) → u ≢ v → (count i j : ℕ) (l k x y : List Level) → IsWait u v count i l →
    IsWait u v count j k →
    l ++ x ≡ k ++ y → (i ≡ j) × (l ≡ k)
wait_once u v other count i j l k x y whole whole e = (refl, refl)
wait_once u v other count i j l k x y whole (cut_off n less) e =
    absurd (too_few u v other count n x y less (e ∙ append_assoc (replicate n u) (v ∷ []) y))
wait_once u v other count i j l k x y (cut_off n less) whole e =
    absurd (too_few u v other count n y x less (sym e ∙ append_assoc (replicate n u) (v ∷ []) x))
wait_once u v other count i j l k x y (cut_off n less) (cut_off m small) e =
    let h = leading u v other n m x y (sym (append_assoc (replicate n u) (v ∷ []) x) ∙ e
    ∙ append_assoc (replicate m u) (v ∷ []) y) in
    (h.0, ap (λ t. replicate t u ++ v ∷ []) h.0)
