-- How many steps of each driver are done, with more of one.
use Rattle.std.proofs.Common.{◌≡◌, ◌<◌, ◌≤◌, ◌+◌, ℕ, zero, suc, List, [], ◌∷◌, length, map, refl, ap, arith}
use Rattle.std.specs.Prelude.{replicate, set, slice_index, slice_index_or}
use Rattle.sja_log.specs.Log.{NodeValue}
use Rattle.sja_promises.specs.Turns.{Progress, steps_done, with_steps}

index_same : (l : List ℕ) (k x : ℕ) → k < length l → slice_index (set l k x) k ≡ x
index_same [] k x less = absurd (omega (arith, less))
index_same (y ∷ l) zero x less = refl
index_same (y ∷ l) (suc k) x less = index_same l k x (omega (arith, less))

index_other : (l : List ℕ) (k m x : ℕ) → (k ≡ m → ⊥) → slice_index (set l k x) m ≡ slice_index l m
index_other [] k m x other = refl
index_other (y ∷ l) zero zero x other = absurd (other refl)
index_other (y ∷ l) zero (suc m) x other = refl
index_other (y ∷ l) (suc k) zero x other = refl
index_other (y ∷ l) (suc k) (suc m) x other = index_other l k m x (λ e. other (ap suc e))

set_nothing : (l : List ℕ) (k x : ℕ) → length l ≤ k → set l k x ≡ l
set_nothing [] k x past = refl
set_nothing (y ∷ l) zero x past = absurd (omega (arith, past))
set_nothing (y ∷ l) (suc k) x past = ap (λ t. y ∷ t) (set_nothing l k x (omega (arith, past)))

set_long : (l : List ℕ) (k x : ℕ) → length (set l k x) ≡ length l
set_long [] k x = refl
set_long (y ∷ l) zero x = refl
set_long (y ∷ l) (suc k) x = ap suc (set_long l k x)

pub steps_same : (p : Progress) (k m : ℕ) → k < length p.done → steps_done (with_steps p k m) k ≡ steps_done p k + m
steps_same p k m less = index_same p.done k (steps_done p k + m) less

pub steps_other : (p : Progress) (k n m : ℕ) → (k ≡ n → ⊥) → steps_done (with_steps p k m) n ≡ steps_done p n
steps_other p k n m other = index_other p.done k n (steps_done p k + m) other

pub steps_nothing : (p : Progress) (k m : ℕ) → length p.done ≤ k → with_steps p k m ≡ p
steps_nothing p k m past = ap (λ (l : List ℕ). let q : Progress = record { bits = p.bits; done = l } in q)
    (set_nothing p.done k (steps_done p k + m) past)

pub steps_long : (p : Progress) (k m : ℕ) → length (with_steps p k m).done ≡ length p.done
steps_long p k m = set_long p.done k (steps_done p k + m)

-- ---- at the beginning, and at the end

pub none_done : (n k : ℕ) → slice_index (replicate n 0) k ≡ 0
none_done zero k = refl
none_done (suc n) zero = refl
none_done (suc n) (suc k) = none_done n k

pub all_done_at : (nodes : List NodeValue) (k : ℕ) (d : NodeValue) → k < length nodes →
    slice_index (map (λ (n : NodeValue). length n.done) nodes) k ≡ length (slice_index_or nodes k d).done
all_done_at [] k d less = absurd (omega (arith, less))
all_done_at (n ∷ nodes) zero d less = refl
all_done_at (n ∷ nodes) (suc k) d less = all_done_at nodes k d (omega (arith, less))
