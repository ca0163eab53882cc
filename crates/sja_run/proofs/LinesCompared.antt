-- Two texts, line by line.
use Rattle.std.proofs.Common.{◌≡◌, ◌≢◌, ◌<◌, ◌≤◌, ◌+◌, ◌⊎◌, inl, inr, ℕ, Bool, true, false, List, [], length, map, take}
use Rattle.std.proofs.Common.{◌∷◌, None}
use Rattle.std.proofs.Common.{◌++◌, Bor, zero, suc, refl, sym, ap, ap₂, ◌∙◌, arith, slice_index_or}
use Rattle.std.specs.Str.{bytes_eq}
use Rattle.std.proofs.lemmas.Slice.Eq.{bytes_eq-Decides}
use Rattle.std.specs.Prelude.{slice_get}
use Rattle.std.specs.List.{join_with_byte}
use Rattle.std.proofs.lemmas.List.{take_more_same}
use Rattle.std.proofs.lemmas.List.Splits.{join_with_byte-slice_split}
use Rattle.std.proofs.lemmas.Option.{slice_get-get_or, slice_get_past}
use Rattle.sja_run.specs.Difference.{lines_in}

-- the first lines, as texts
pub take_texts : (n : ℕ) (lines : List (Bor (List ℕ))) →
    map (λ line. line.now) (take n lines) ≡ take n (map (λ line. line.now) lines)
take_texts zero lines = refl
take_texts (suc n) [] = refl
take_texts (suc n) (x ∷ xs) = ap (λ l. x.now ∷ l) (take_texts n xs)

-- a text behind which others were written
pub said_is : (head a b c one two three t1 t2 t3 t4 : List ℕ) → t1 ≡ head → t2 ≡ t1 ++ one → one ≡ a →
    t3 ≡ t2 ++ two → two ≡ b → t4 ≡ t3 ++ three → three ≡ c → t4 ≡ head ++ a ++ b ++ c
said_is head a b c one two three t1 t2 t3 t4 p q is_a r is_b s is_c =
    s ∙ ap₂ (λ x y. x ++ y) (r ∙ ap₂ (λ x y. x ++ y) (q ∙ ap₂ (λ x y. x ++ y) p is_a) is_b) is_c

-- one line more is the same, or isn't
pub next_same : (xs ys : List (List ℕ)) (n : ℕ) (same : Bool) → n < length xs → n < length ys → same ≡ true →
    same ≡ bytes_eq (slice_index_or xs n []) (slice_index_or ys n []) → take n xs ≡ take n ys →
    take (n + 1) xs ≡ take (n + 1) ys
next_same xs ys n same less fewer agrees is so_far =
    let here : slice_index_or xs n [] ≡ slice_index_or ys n [] =
    (bytes_eq-Decides (slice_index_or xs n []) (slice_index_or ys n [])).0 (sym is ∙ agrees) in
    take_more_same xs ys n [] less fewer so_far here

pub next_other : (xs ys : List (List ℕ)) (n : ℕ) (same : Bool) → n < length xs → n < length ys → same ≡ false →
    same ≡ bytes_eq (slice_index_or xs n []) (slice_index_or ys n []) → ¬ (slice_get xs n ≡ slice_get ys n)
next_other xs ys n same less fewer differs is equal =
    let one = slice_get-get_or xs n [] less in
    let two = slice_get-get_or ys n [] fewer in
    let both : slice_index_or xs n [] ≡ slice_index_or ys n [] = cc (one, two, equal) in
    let alike = (bytes_eq-Decides (slice_index_or xs n []) (slice_index_or ys n [])).1 both in
    cc (alike, is, differs)

-- a line stands where the other text has none
pub one_more : (xs ys : List (List ℕ)) (n : ℕ) → length xs ≤ n → n < length ys → ¬ (slice_get xs n ≡ slice_get ys n)
one_more xs ys n past within same =
    let none : slice_get xs n ≡ None = slice_get_past xs n past in
    let some = slice_get-get_or ys n [] within in
    cc (none, some, same)

-- a line stands in one of two texts alone, whose lines before are as many
pub other_length : (xs ys : List (List ℕ)) (n : ℕ) → (length xs ≤ n) ⊎ (length ys ≤ n) → n ≤ length xs →
    n ≤ length ys → length xs ≢ length ys → ¬ (slice_get xs n ≡ slice_get ys n)
other_length xs ys n (inl past) within both other = one_more xs ys n past (omega (arith, other))
other_length xs ys n (inr past) within both other =
    λ same. one_more ys xs n past (omega (arith, other)) (sym same)

-- the same lines are of the same text
pub same_text : (a b : List ℕ) → lines_in a ≡ lines_in b → a ≡ b
same_text a b same =
    sym (join_with_byte-slice_split 10 a) ∙ ap (join_with_byte 10) same ∙ join_with_byte-slice_split 10 b
