-- Words in a list, one by one.
use Rattle.std.proofs.Common.{◌≡◌, ℕ, ◌-◌, ◌<◌, ◌≤◌, List, [], ◌∷◌, length, map, get_or, take, drop, codes, refl, ap}
use Rattle.std.proofs.Common.{sym, ◌∙◌, Bor, arith}
use Rattle.std.proofs.lemmas.List.{take_all}
use Rattle.sja_live.specs.Opening.{IsLiveLine}
use Rattle.sja_plan_reading.specs.Words.{Text, words}

abbrev pub texts : List (Bor Text) → List Text
texts ws = map (λ (w : Bor Text). w.now) ws

abbrev pub text_at : List (Bor Text) → ℕ → Bor Text → Text
text_at ws k d = (get_or ws k d).now

pub one_word : (ws : List (Bor Text)) (d : Bor Text) → 1 ≤ length ws → length ws < 2 → texts ws ≡ text_at ws 0 d ∷ []
one_word [] d many few = absurd (omega (arith, many))
one_word (a ∷ []) d many few = refl
one_word (a ∷ b ∷ ws) d many few = absurd (omega (arith, few))

pub two_words : (ws : List (Bor Text)) (d : Bor Text) → 2 ≤ length ws → length ws < 3 →
    texts ws ≡ text_at ws 0 d ∷ text_at ws 1 d ∷ []
two_words [] d many few = absurd (omega (arith, many))
two_words (a ∷ []) d many few = absurd (omega (arith, many))
two_words (a ∷ b ∷ []) d many few = refl
two_words (a ∷ b ∷ e ∷ ws) d many few = absurd (omega (arith, few))

pub three_words : (ws : List (Bor Text)) (d : Bor Text) → 3 ≤ length ws → length ws < 4 →
    texts ws ≡ text_at ws 0 d ∷ text_at ws 1 d ∷ text_at ws 2 d ∷ []
three_words [] d many few = absurd (omega (arith, many))
three_words (a ∷ []) d many few = absurd (omega (arith, many))
three_words (a ∷ b ∷ []) d many few = absurd (omega (arith, many))
three_words (a ∷ b ∷ e ∷ []) d many few = refl
three_words (a ∷ b ∷ e ∷ f ∷ ws) d many few = absurd (omega (arith, few))

pub four_words : (ws : List (Bor Text)) (d : Bor Text) → 4 ≤ length ws → length ws < 5 →
    texts ws ≡ text_at ws 0 d ∷ text_at ws 1 d ∷ text_at ws 2 d ∷ text_at ws 3 d ∷ []
four_words [] d many few = absurd (omega (arith, many))
four_words (a ∷ []) d many few = absurd (omega (arith, many))
four_words (a ∷ b ∷ []) d many few = absurd (omega (arith, many))
four_words (a ∷ b ∷ e ∷ []) d many few = absurd (omega (arith, many))
four_words (a ∷ b ∷ e ∷ f ∷ []) d many few = refl
four_words (a ∷ b ∷ e ∷ f ∷ g ∷ ws) d many few = absurd (omega (arith, few))

-- a name, the node and the words behind it
pub words_behind : (name : Text) (ws : List (Bor Text)) (d : Bor Text) → 2 ≤ length ws → text_at ws 0 d ≡ name →
    texts ws ≡ name ∷ text_at ws 1 d ∷ texts (take (length ws - 2) (drop 2 ws))
words_behind name [] d many is = absurd (omega (arith, many))
words_behind name (a ∷ []) d many is = absurd (omega (arith, many))
words_behind name (a ∷ b ∷ ws) d many is =
    ap (λ (n : Text). n ∷ b.now ∷ texts ws) is
    ∙ ap (λ (l : List (Bor Text)). name ∷ b.now ∷ texts l)
    (sym (take_all (length (a ∷ b ∷ ws) - 2) ws (omega arith)))

-- the words of the line that opens a session
pub live_words : (line : Text) (ws : List (Bor Text)) (d : Bor Text) → texts ws ≡ words line → 4 ≤ length ws →
    length ws < 5 → text_at ws 0 d ≡ codes "live" →
    IsLiveLine (words line) (text_at ws 1 d) (text_at ws 2 d) (text_at ws 3 d)
live_words line ws d is many few name =
    sym is ∙ four_words ws d many few
    ∙ ap (λ (n : Text). n ∷ text_at ws 1 d ∷ text_at ws 2 d ∷ text_at ws 3 d ∷ []) name
