-- The ruler over a block, column by column.
use Rattle.std.proofs.Common.{◌≡◌, ℕ, ◌+◌, ◌-◌, ◌%◌, ◌^◌, ◌<◌, ◌≤◌, zero, suc, Some, List, [], ◌∷◌, ◌++◌, decimal}
use Rattle.std.proofs.Common.{sym, ap, ap₂, ◌∙◌, subst, append-nil, append_assoc, arith}
use Rattle.std.specs.Prelude.{slice_get}
use Rattle.std.specs.List.{range_with_len}
use Rattle.std.specs.Str.{IsAscii}
use Rattle.std.proofs.lemmas.Fmt.{IsAscii-decimal}
use Rattle.lemmas.specs.Gathering.{gathered}
use Rattle.lemmas.proofs.Ranges.{gathered_from, gathered_before}
use Rattle.text_picture.specs.Rows.{character_if, ruler_in}
use Rattle.text_picture.specs.PictureText.{row, to_ten, end_of_ten}

-- the columns of these bits, behind a text and a head
abbrev pub ruled : List ℕ → List ℕ → ℕ → ℕ → List ℕ
ruled old head bit number = old ++ (head ++ gathered ruler_in (range_with_len bit (number - bit)))

-- none yet
pub ruled_none : (old head new : List ℕ) (bit : ℕ) → new ≡ old ++ head → new ≡ ruled old head bit bit
ruled_none old head new bit wrote =
    wrote ∙ ap (λ l. old ++ l) (sym (append-nil head))
    ∙ ap (λ l. old ++ (head ++ l)) (sym (gathered_before ruler_in bit bit (omega arith)))

-- one more
pub ruled_more : (old head text new ten : List ℕ) (bit number : ℕ) → bit ≤ number →
    ten ≡ decimal (number - number % 10) → new ≡ text ++ character_if (slice_get ten (number % 10)) →
    text ≡ ruled old head bit number → new ≡ ruled old head bit (number + 1)
ruled_more old head text new ten bit number from is wrote so_far =
    let shown = gathered ruler_in (range_with_len bit (number - bit)) in
    wrote ∙ ap₂ (λ l t. l ++ character_if (slice_get t (number % 10))) so_far is
    ∙ append_assoc old (head ++ shown) (ruler_in number)
    ∙ ap (λ l. old ++ l) (append_assoc head shown (ruler_in number))
    ∙ ap (λ l. old ++ (head ++ l)) (sym (gathered_from ruler_in bit number from))

-- all
pub ruled_all : (old head text new : List ℕ) (bit many number : ℕ) → end_of_ten ((bit + many) - 1) ≤ number →
    number - bit ≤ end_of_ten ((bit + many) - 1) - bit → text ≡ ruled old head bit number → new ≡ text ++ 10 ∷ [] →
    new ≡ old ++ row head ruler_in bit (to_ten bit many)
ruled_all old head text new bit many number past within so_far wrote =
    let same : number - bit ≡ to_ten bit many = omega (arith, past, within) in
    let shown = gathered ruler_in (range_with_len bit (to_ten bit many)) in
    wrote ∙ ap (λ l. l ++ 10 ∷ []) so_far
    ∙ ap (λ (n : ℕ). (old ++ (head ++ gathered ruler_in (range_with_len bit n))) ++ 10 ∷ []) same
    ∙ append_assoc old (head ++ shown) (10 ∷ []) ∙ ap (λ l. old ++ l) (append_assoc head shown (10 ∷ []))

-- a character of a text that is ASCII
got_ascii : (xs : List ℕ) (place c : ℕ) → IsAscii xs → slice_get xs place ≡ Some c → c < 128
got_ascii [] place c ascii is = cc
got_ascii (x ∷ xs) zero c ascii is =
    let small = ascii 0 in
    let same : x ≡ c = cc in omega (arith, small, same)
got_ascii (x ∷ xs) (suc place) c ascii is = got_ascii xs place c (λ i. ascii (suc i)) is

pub character_is : (old new encoded xs : List ℕ) (place c : ℕ) → new ≡ old ++ encoded →
    (c < 128 → encoded ≡ c ∷ []) → IsAscii xs → slice_get xs place ≡ Some c →
    new ≡ old ++ character_if (slice_get xs place)
character_is old new encoded xs place c wrote one ascii is =
    wrote ∙ ap (λ l. old ++ l) (one (got_ascii xs place c ascii is) ∙ sym (ap character_if is))

-- the number of a ten is ASCII
pub ten_is_ascii : (n : ℕ) (ten : List ℕ) → n < 2 ^ 64 → ten ≡ decimal n → IsAscii ten
ten_is_ascii n ten fits is = subst IsAscii (sym is) (IsAscii-decimal n fits)
