-- How many strikes texts count for.
use Rattle.std.proofs.Common.{◌≡◌, ◌≤◌, ◌<◌, ◌+◌, ◌∙◌, ℕ, List, length, map}
use Rattle.std.proofs.Common.{take, get_or, true, false, nat_le, ap, subst, Bor, arith}
use Rattle.std.proofs.lemmas.Bool.Decides.{nat_tests}
use Rattle.std.proofs.lemmas.List.{map_more, take-map, take_all}
use Rattle.std.proofs.lemmas.List.Sums.{sum_by-take-le, sum_by_push}
use Rattle.sja_plan_reading.specs.Words.{Text}
use Rattle.sja_plan_reading.specs.StrikeTexts.{count_of, strikes_in}

abbrev bytes_of : List (Bor Text) → List Text
bytes_of texts = map (λ t. t.now) texts

-- one text more
pub count_more : (texts : List (Bor Text)) (i : ℕ) (d : Bor Text) → i < length texts →
    strikes_in (bytes_of (take (i + 1) texts)) ≡ strikes_in (bytes_of (take i texts)) + count_of (get_or texts i d).now
count_more texts i d within =
    ap strikes_in (map_more (λ (t : Bor Text). t.now) texts i d within)
    ∙ sum_by_push count_of (bytes_of (take i texts)) (get_or texts i d).now

-- the first of them count for no more
first_count : (texts : List (Bor Text)) (i : ℕ) → strikes_in (bytes_of (take i texts)) ≤ strikes_in (bytes_of texts)
first_count texts i = subst (λ (l : List Text). strikes_in l ≤ strikes_in (bytes_of texts))
    (take-map (λ (t : Bor Text). t.now) i texts) (sum_by-take-le count_of (bytes_of texts) i)

-- so many at the first are too many
pub too_many : (texts : List (Bor Text)) (i total n most : ℕ) (d : Bor Text) → i < length texts →
    total ≡ strikes_in (bytes_of (take i texts)) →
    n ≡ count_of (get_or texts i d).now → most < total + n → false ≡ nat_le (strikes_in (bytes_of texts)) most
too_many texts i total n most d within is this many =
    let more : most < strikes_in (bytes_of texts) =
    omega (arith, first_count texts (i + 1), count_more texts i d within, is, this, many) in
    grind (arith, nat_tests)

-- so many at all are few
pub few_enough : (texts : List (Bor Text)) (i total most : ℕ) → length texts ≤ i →
    total ≡ strikes_in (bytes_of (take i texts)) → total ≤ most → true ≡ nat_le (strikes_in (bytes_of texts)) most
few_enough texts i total most all is few =
    let whole : total ≡ strikes_in (bytes_of texts) =
    is ∙ ap (λ l. strikes_in (bytes_of l)) (take_all i texts all) in
    grind (arith, nat_tests)
