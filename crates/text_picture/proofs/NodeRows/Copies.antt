-- The same text again and again.
use Rattle.std.proofs.Common.{◌≡◌, ℕ, ◌+◌, zero, suc, List, ◌++◌, sym, ap, ◌∙◌, append-nil, append_assoc, arith}
use Rattle.std.specs.List.{repeat}

-- once more at the end
pub repeat_more : (n : ℕ) (xs : List ℕ) → repeat n xs ++ xs ≡ repeat (suc n) xs
repeat_more zero xs = sym (append-nil xs)
repeat_more (suc n) xs = append_assoc xs (repeat n xs) xs ∙ ap (λ l. xs ++ l) (repeat_more n xs)

repeat_add : (n m : ℕ) (xs : List ℕ) → repeat (n + m) xs ≡ repeat n xs ++ repeat m xs
repeat_add zero m xs = let same : 0 + m ≡ m = omega arith in ap (λ (k : ℕ). repeat k xs) same
repeat_add (suc n) m xs =
    let more : suc n + m ≡ suc (n + m) = omega arith in
    ap (λ (k : ℕ). repeat k xs) more ∙ ap (λ l. xs ++ l) (repeat_add n m xs)
    ∙ sym (append_assoc xs (repeat n xs) (repeat m xs))

-- some of them were written, and the rest is left
pub copies_less : (old new piece all one : List ℕ) (n left rest : ℕ) → new ≡ old ++ piece → piece ≡ repeat n one →
    left ≡ n + rest → old ++ repeat left one ≡ all → new ++ repeat rest one ≡ all
copies_less old new piece all one n left rest wrote is count whole =
    ap (λ l. l ++ repeat rest one) (wrote ∙ ap (λ l. old ++ l) is) ∙ append_assoc old (repeat n one) (repeat rest one)
    ∙ ap (λ l. old ++ l) (sym (repeat_add n rest one)) ∙ ap (λ (k : ℕ). old ++ repeat k one) (sym count) ∙ whole

-- none is left
pub copies_all : (text all one : List ℕ) (left : ℕ) → left ≡ 0 → text ++ repeat left one ≡ all → text ≡ all
copies_all text all one left none whole =
    sym (append-nil text) ∙ ap (λ (k : ℕ). text ++ repeat k one) (sym none) ∙ whole
