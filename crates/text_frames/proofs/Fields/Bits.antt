-- Texts of the bits of a field.
use Rattle.std.proofs.Common.{◌≡◌, ◌≤◌, ◌<◌, ◌+◌, ℕ, zero, suc, List, [], ◌∷◌, ◌++◌, length, take, drop, get_or, arith}
use Rattle.std.proofs.Common.{add-one, refl, sym, ap, ◌∙◌, append-nil, append_assoc}
use Rattle.std.proofs.Math.ListN.{drop_of_length-le}
use Rattle.std.proofs.lemmas.List.{get_or_default}
use Rattle.lemmas.specs.Gathering.{gathered}
use Rattle.text_report.proofs.WrittenLines.Written.{rest_is}
use Rattle.text_frames.specs.declared.frame_bit.FrameBit.{FrameBit}
use Rattle.text_frames.specs.FieldTexts.{last_number}

-- what was written, and what the rest gives: one element more
pub gathered_next : {A : Type 0} (f : A → List ℕ) (xs : List A) (i : ℕ) (x : A) (old new whole : List ℕ) →
    i < length xs → x ≡ get_or xs i x → new ≡ old ++ f x → old ++ gathered f (drop i xs) ≡ whole →
    new ++ gathered f (drop (i + 1) xs) ≡ whole
gathered_next f xs i x old new whole less is wrote so_far =
    let rest = gathered f (drop (i + 1) xs) in
    ap (λ t. t ++ rest) wrote ∙ append_assoc old (f x) rest
    ∙ ap (λ l. old ++ gathered f l) (sym (rest_is xs i x less is)) ∙ so_far

pub gathered_at : {A : Type 0} (f : A → List ℕ) (xs : List A) (i : ℕ) (d : A) (old new whole : List ℕ) →
    i < length xs → new ≡ old ++ f (get_or xs i d) → old ++ gathered f (drop i xs) ≡ whole →
    new ++ gathered f (drop (i + 1) xs) ≡ whole
gathered_at f xs i d old new whole less wrote so_far =
    gathered_next f xs i (get_or xs i d) old new whole less (get_or_default xs i d (get_or xs i d) less) wrote so_far

-- none left
pub gathered_end : {A : Type 0} (f : A → List ℕ) (xs : List A) (i : ℕ) (text whole : List ℕ) → length xs ≤ i →
    text ++ gathered f (drop i xs) ≡ whole → text ≡ whole
gathered_end f xs i text whole past so_far =
    sym (append-nil text) ∙ ap (λ l. text ++ gathered f l) (sym (drop_of_length-le xs past)) ∙ so_far

-- the number of the last bit: one more
last_taken : (b : FrameBit) (rest : List FrameBit) (i : ℕ) (d : FrameBit) → i < length rest →
    (get_or rest i d).bit ≡ last_number b (take (suc i) rest)
last_taken b [] i d less = absurd (omega (arith, less))
last_taken b (c ∷ rest) zero d less = refl
last_taken b (c ∷ rest) (suc i) d less = last_taken c rest i d (omega (arith, less))

pub last_more : (b : FrameBit) (rest : List FrameBit) (i : ℕ) (d : FrameBit) → i < length rest →
    (get_or rest i d).bit ≡ last_number b (take (i + 1) rest)
last_more b rest i d less = rw add-one (last_taken b rest i d less)
