-- What a sweep tries, one number after another.
use Rattle.std.proofs.Common.{◌≡◌, ℕ, ◌+◌, ◌-◌, ◌≤◌, List, [], ◌∷◌, ◌++◌, length, map}
use Rattle.std.proofs.Common.{sym, ap, ◌∙◌, arith, append_assoc}
use Rattle.std.specs.List.{range_with_len}
use Rattle.std.proofs.lemmas.List.{map-append, length-append}
use Rattle.lemmas.specs.Gathering.{gathered}
use Rattle.lemmas.proofs.Ranges.{range_from, gathered_from}

-- what was gathered so far, and of one number more
pub gather_from : {B : Type 0} (f : ℕ → List B) (first i : ℕ) (begun old new : List B) → first ≤ i →
    old ≡ begun ++ gathered f (range_with_len first (i - first)) → new ≡ old ++ f i →
    new ≡ begun ++ gathered f (range_with_len first ((i + 1) - first))
gather_from f first i begun old new low so_far added =
    added ∙ ap (λ l. l ++ f i) so_far ∙ append_assoc begun (gathered f (range_with_len first (i - first))) (f i)
    ∙ ap (λ l. begun ++ l) (sym (gathered_from f first i low))

-- the same where each number gives one element
pub map_from : {B : Type 0} (f : ℕ → B) (first i : ℕ) (begun old new : List B) → first ≤ i →
    old ≡ begun ++ map f (range_with_len first (i - first)) → new ≡ old ++ f i ∷ [] →
    new ≡ begun ++ map f (range_with_len first ((i + 1) - first))
map_from f first i begun old new low so_far added =
    added ∙ ap (λ l. l ++ f i ∷ []) so_far
    ∙ append_assoc begun (map f (range_with_len first (i - first))) (f i ∷ [])
    ∙ ap (λ l. begun ++ l) (sym (ap (map f) (range_from first i low)
    ∙ map-append f (range_with_len first (i - first)) (i ∷ [])))

-- how many were gathered so far, and of one number more
pub count_from : {B : Type 0} (f : ℕ → List B) (first i old n new : ℕ) → first ≤ i →
    old ≡ length (gathered f (range_with_len first (i - first))) → n ≡ length (f i) → new ≡ old + n →
    new ≡ length (gathered f (range_with_len first ((i + 1) - first)))
count_from f first i old n new low so_far one added =
    let both = length-append (gathered f (range_with_len first (i - first))) (f i) in
    let next = ap (λ l. length l) (gathered_from f first i low) in omega (arith, so_far, one, added, both, next)

-- once so many numbers are reached that were to be
pub gather_end : {B : Type 0} (f : ℕ → List B) (first i n : ℕ) (begun new : List B) →
    new ≡ begun ++ gathered f (range_with_len first (i - first)) → i - first ≡ n →
    new ≡ begun ++ gathered f (range_with_len first n)
gather_end f first i n begun new so_far same = so_far ∙ ap (λ k. begun ++ gathered f (range_with_len first k)) same

pub map_end : {B : Type 0} (f : ℕ → B) (first i n : ℕ) (begun new : List B) →
    new ≡ begun ++ map f (range_with_len first (i - first)) → i - first ≡ n →
    new ≡ begun ++ map f (range_with_len first n)
map_end f first i n begun new so_far same = so_far ∙ ap (λ k. begun ++ map f (range_with_len first k)) same
