-- Texts that are written one after another.
use Rattle.std.proofs.Common.{◌≡◌, ℕ, ◌+◌, ◌<◌, ◌≤◌, List, ◌∷◌, ◌++◌, length}
use Rattle.std.proofs.Common.{drop, get_or, sym, ap, ◌∙◌, append-nil, append_assoc}
use Rattle.std.proofs.lemmas.List.{drop_more}
use Rattle.std.proofs.Math.ListN.{drop_of_length-le}
use Rattle.text_report.specs.ReportLines.{numbered}

-- two texts
pub two_texts : (old one two a b : List ℕ) → one ≡ old ++ a → two ≡ one ++ b → two ≡ old ++ (a ++ b)
two_texts old one two a b e f = f ∙ ap (λ t. t ++ b) e ∙ append_assoc old a b

-- three
pub three_texts : (old t1 t2 t3 a b c : List ℕ) → t1 ≡ old ++ a → t2 ≡ t1 ++ b → t3 ≡ t2 ++ c →
    t3 ≡ old ++ ((a ++ b) ++ c)
three_texts old t1 t2 t3 a b c p q r = two_texts old t2 t3 (a ++ b) c (two_texts old t1 t2 a b p q) r

-- four
pub four_texts : (old t1 t2 t3 t4 a b c d : List ℕ) → t1 ≡ old ++ a → t2 ≡ t1 ++ b → t3 ≡ t2 ++ c → t4 ≡ t3 ++ d →
    t4 ≡ old ++ (((a ++ b) ++ c) ++ d)
four_texts old t1 t2 t3 t4 a b c d p q r s =
    two_texts old t3 t4 ((a ++ b) ++ c) d (three_texts old t1 t2 t3 a b c p q r) s

-- five
pub five_texts : (old t1 t2 t3 t4 t5 a b c d e : List ℕ) → t1 ≡ old ++ a → t2 ≡ t1 ++ b → t3 ≡ t2 ++ c →
    t4 ≡ t3 ++ d → t5 ≡ t4 ++ e →
    t5 ≡ old ++ ((((a ++ b) ++ c) ++ d) ++ e)
five_texts old t1 t2 t3 t4 t5 a b c d e p q r s t =
    two_texts old t4 t5 (((a ++ b) ++ c) ++ d) e (four_texts old t1 t2 t3 t4 a b c d p q r s) t

-- six
pub six_texts : (old t1 t2 t3 t4 t5 t6 a b c d e f : List ℕ) → t1 ≡ old ++ a → t2 ≡ t1 ++ b → t3 ≡ t2 ++ c →
    t4 ≡ t3 ++ d → t5 ≡ t4 ++ e → t6 ≡ t5 ++ f →
    t6 ≡ old ++ (((((a ++ b) ++ c) ++ d) ++ e) ++ f)
six_texts old t1 t2 t3 t4 t5 t6 a b c d e f p q r s t u =
    two_texts old t5 t6 ((((a ++ b) ++ c) ++ d) ++ e) f (five_texts old t1 t2 t3 t4 t5 a b c d e p q r s t) u

-- the elements from a place on
pub rest_is : {A : Type 0} (xs : List A) (i : ℕ) (x : A) → i < length xs → x ≡ get_or xs i x →
    drop i xs ≡ x ∷ drop (i + 1) xs
rest_is xs i x less is = drop_more xs i x less ∙ ap (λ y. y ∷ drop (i + 1) xs) (sym is)

-- what was written, and the texts of the rest: one element more
pub numbered_next : {A : Type 0} (f : ℕ → A → List ℕ) (xs : List A) (i n : ℕ) (x : A) (old new whole : List ℕ) →
    i < length xs → x ≡ get_or xs i x →
    new ≡ old ++ f n x → old ++ numbered f n (drop i xs) ≡ whole → new ++ numbered f (n + 1) (drop (i + 1) xs) ≡ whole
numbered_next f xs i n x old new whole less is wrote so_far =
    let rest = numbered f (n + 1) (drop (i + 1) xs) in
    ap (λ t. t ++ rest) wrote ∙ append_assoc old (f n x) rest
    ∙ ap (λ l. old ++ numbered f n l) (sym (rest_is xs i x less is)) ∙ so_far

-- none left
pub numbered_end : {A : Type 0} (f : ℕ → A → List ℕ) (xs : List A) (i n : ℕ) (text whole : List ℕ) → length xs ≤ i →
    text ++ numbered f n (drop i xs) ≡ whole → text ≡ whole
numbered_end f xs i n text whole past so_far =
    sym (append-nil text) ∙ ap (λ l. text ++ numbered f n l) (sym (drop_of_length-le xs past)) ∙ so_far
