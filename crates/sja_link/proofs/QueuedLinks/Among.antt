-- What lies on one of some links in order.
use Rattle.std.proofs.Common.{◌≡◌, ℕ, zero, suc, ◌+◌, ◌<◌, ◌≤◌, Bool, true, false, cond, List, [], ◌∷◌, ◌++◌}
use Rattle.std.proofs.Common.{length, drop, replicate, refl, sym, ◌∙◌, arith}
use Rattle.std.specs.Prelude.{◌≢◌, ◌==◌, slice_index_or, slice_set}
use Rattle.std.proofs.lemmas.Bool.{eq-eqb, ne_eqb}
use Rattle.sja_link.specs.Deques.{Queues, nothing_lies, among}

-- ---- on a link that isn't one of them

pub among_before : (links : List Queues) (first a : ℕ) → a < first → among first links a ≡ nothing_lies
among_before [] first a less = refl
among_before (q ∷ links) first a less =
    rw (ne_eqb first a (λ e. omega (arith, less, e))) (among_before links (suc first) a (omega (arith, less)))

pub among_beyond : (links : List Queues) (first a : ℕ) → first + length links ≤ a →
    among first links a ≡ nothing_lies
among_beyond [] first a beyond = refl
among_beyond (q ∷ links) first a beyond =
    rw (ne_eqb first a (λ e. omega (arith, beyond, e))) (among_beyond links (suc first) a (omega (arith, beyond)))

-- ---- on one of them

pub among_at : (links : List Queues) (first i a : ℕ) (q : Queues) → a ≡ first + i → i < length links →
    among first links a ≡ slice_index_or links i q
among_at [] first i a q at less = absurd (omega (arith, less))
among_at (r ∷ links) first zero a q at less = rw (eq-eqb first a (omega (arith, at))) refl
among_at (r ∷ links) first (suc i) a q at less =
    rw (ne_eqb first a (λ e. omega (arith, at, e)))
    (among_at links (suc first) i a q (omega (arith, at)) (omega (arith, less)))

-- ---- where one of them is another now

pub among_set : (links : List Queues) (first i a : ℕ) (q : Queues) → a ≡ first + i → i < length links →
    among first (slice_set links i q) a ≡ q
among_set [] first i a q at less = absurd (omega (arith, less))
among_set (r ∷ links) first zero a q at less = rw (eq-eqb first a (omega (arith, at))) refl
among_set (r ∷ links) first (suc i) a q at less =
    rw (ne_eqb first a (λ e. omega (arith, at, e)))
    (among_set links (suc first) i a q (omega (arith, at)) (omega (arith, less)))

pub among_set_else : (links : List Queues) (first i b : ℕ) (q : Queues) → b ≢ first + i →
    among first (slice_set links i q) b ≡ among first links b
among_set_else [] first i b q differ = refl
among_set_else (r ∷ links) first zero b q differ = rw (ne_eqb first b (λ e. differ (omega (arith, e)))) refl
among_set_else (r ∷ links) first (suc i) b q differ =
    same (first == b) (among_set_else links (suc first) i b q (λ e. differ (omega (arith, e))))
  where
    same : (x : Bool) {m n : Queues} → m ≡ n → cond x r m ≡ cond x r n
    same true e = refl
    same false e = e

-- on new ones nothing lies
pub among_new : (n first b : ℕ) → among first (replicate n nothing_lies) b ≡ nothing_lies
among_new zero first b = refl
among_new (suc n) first b = either (first == b) (among_new n (suc first) b)
  where
    either : (x : Bool) {q : Queues} → q ≡ nothing_lies → cond x nothing_lies q ≡ nothing_lies
    either true e = refl
    either false e = e

-- ---- where the first of them isn't one any more, and one with nothing on it is one now

pub among_push : (links : List Queues) (first b : ℕ) →
    among first (links ++ nothing_lies ∷ []) b ≡ among first links b
among_push [] first b = none (first == b)
  where
    none : (x : Bool) → cond x nothing_lies nothing_lies ≡ nothing_lies
    none true = refl
    none false = refl
among_push (r ∷ links) first b = same (first == b) (among_push links (suc first) b)
  where
    same : (x : Bool) {m n : Queues} → m ≡ n → cond x r m ≡ cond x r n
    same true e = refl
    same false e = e

pub among_drop : (links : List Queues) (first b : ℕ) → b ≢ first →
    among (suc first) (drop 1 links) b ≡ among first links b
among_drop [] first b differ = refl
among_drop (r ∷ links) first b differ = rw (ne_eqb first b (λ e. differ (sym e))) refl

pub among_moved : (links : List Queues) (first b : ℕ) → b ≢ first →
    among (suc first) (drop 1 links ++ nothing_lies ∷ []) b ≡ among first links b
among_moved links first b differ = among_push (drop 1 links) (suc first) b ∙ among_drop links first b differ
