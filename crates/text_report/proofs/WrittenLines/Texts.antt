-- Texts of several words and lines.
use Rattle.std.proofs.Common.{◌≡◌, ℕ, ◌+◌, ◌<◌, List, [], ◌∷◌, ◌++◌, length, drop, get_or}
use Rattle.std.proofs.Common.{refl, sym, ap, ◌∙◌, append_assoc}
use Rattle.lemmas.proofs.Gathered.{gathered_append}
use Rattle.text_report.specs.ReportLines.{words_text, line_text, lines_text, numbered}
use Rattle.text_report.specs.Spacing.{all_spaced}
use Rattle.text_report.proofs.WrittenLines.Written.{rest_is}

-- words behind the first one are those behind spaces, and a line feed
pub words_spaced : (words : List (List ℕ)) → words_text words ≡ all_spaced words ++ 10 ∷ []
words_spaced [] = refl
words_spaced (word ∷ words) =
    ap (λ l. 32 ∷ (word ++ l)) (words_spaced words)
    ∙ ap (λ l. 32 ∷ l) (sym (append_assoc word (all_spaced words) (10 ∷ [])))

-- a line: its beginning, words behind spaces, and a line feed
pub line_whole : (old one two three beginning : List ℕ) (words : List (List ℕ)) → one ≡ old ++ beginning →
    two ≡ one ++ all_spaced words → three ≡ two ++ 10 ∷ [] → three ≡ old ++ (beginning ++ words_text words)
line_whole old one two three beginning words e f g =
    g ∙ ap (λ t. t ++ 10 ∷ []) (f ∙ ap (λ t. t ++ all_spaced words) e)
    ∙ append_assoc (old ++ beginning) (all_spaced words) (10 ∷ [])
    ∙ append_assoc old beginning (all_spaced words ++ 10 ∷ [])
    ∙ ap (λ t. old ++ (beginning ++ t)) (sym (words_spaced words))

-- the text of lines and more lines
pub lines_both : (a b : List (List (List ℕ))) → lines_text (a ++ b) ≡ lines_text a ++ lines_text b
lines_both a b = gathered_append line_text a b

-- a line, and then lines of three kinds
pub activation_text : (old first second third fourth : List ℕ) (line : List (List ℕ)) (a b c : List (List (List ℕ))) →
    first ≡ old ++ line_text line → second ≡ first ++ lines_text a → third ≡ second ++ lines_text b →
    fourth ≡ third ++ lines_text c → fourth ≡ old ++ lines_text (line ∷ (a ++ b ++ c))
activation_text old first second third fourth line a b c e f g h =
    h ∙ ap (λ t. t ++ lines_text c) (g ∙ ap (λ t. t ++ lines_text b) (f ∙ ap (λ t. t ++ lines_text a) e))
    ∙ append_assoc ((old ++ line_text line) ++ lines_text a) (lines_text b) (lines_text c)
    ∙ append_assoc (old ++ line_text line) (lines_text a) (lines_text b ++ lines_text c)
    ∙ append_assoc old (line_text line) (lines_text a ++ (lines_text b ++ lines_text c))
    ∙ ap (λ t. old ++ (line_text line ++ t))
    (sym (append_assoc (lines_text a) (lines_text b) (lines_text c))
    ∙ ap (λ t. t ++ lines_text c) (sym (lines_both a b)) ∙ sym (lines_both (a ++ b) c))

-- the lines of one element more
pub numbered_more : {A : Type 0} (f : ℕ → A → List (List (List ℕ))) (xs : List A) (i n : ℕ) (x : A)
    (old new whole : List ℕ) → i < length xs → x ≡ get_or xs i x → new ≡ old ++ lines_text (f n x) →
    old ++ lines_text (numbered f n (drop i xs)) ≡ whole →
    new ++ lines_text (numbered f (n + 1) (drop (i + 1) xs)) ≡ whole
numbered_more f xs i n x old new whole less is wrote so_far =
    let rest = numbered f (n + 1) (drop (i + 1) xs) in
    ap (λ t. t ++ lines_text rest) wrote ∙ append_assoc old (lines_text (f n x)) (lines_text rest)
    ∙ ap (λ t. old ++ t) (sym (lines_both (f n x) rest))
    ∙ ap (λ l. old ++ lines_text (numbered f n l)) (sym (rest_is xs i x less is)) ∙ so_far
