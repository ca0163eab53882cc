-- Texts cut into words.
use Rattle.std.proofs.Common.{◌≡◌, ◌==◌, ◌<◌, ◌++◌, ◌∙◌, List, [], ◌∷◌, length}
use Rattle.std.proofs.Common.{map, sym, ap, ap₂, append_assoc, Bor, arith}
use Rattle.std.specs.List.{position_or_len, before_first, after_first}
use Rattle.std.proofs.lemmas.List.Splits.{slice_split_first, slice_split_none}
use Rattle.std.proofs.lemmas.List.Sums.{fails_before_first}
use Rattle.std.proofs.lemmas.List.{map-append}
use Rattle.sja_plan_reading.specs.Words.{Text, words}

-- the first word ends at the first space
pub words_first : (text : Text) → position_or_len (λ b. b == 32) text < length text →
    words text ≡ before_first (λ b. b == 32) text ∷ words (after_first (λ b. b == 32) text)
words_first text h = slice_split_first (λ b. b == 32) text 0 h

-- a text with no space is one word
pub words_none : (text : Text) → position_or_len (λ b. b == 32) text ≡ length text → words text ≡ text ∷ []
words_none text h =
    slice_split_none (λ b. b == 32) text (λ k x w. fails_before_first (λ b. b == 32) text k x (omega arith))

-- one word more was found
pub words_more : (text rest behind : Text) (found : List (Bor Text)) (word : Bor Text) →
    words text ≡ map (λ (w : Bor Text). w.now) found ++ words rest →
    position_or_len (λ b. b == 32) rest < length rest → word.now ≡ before_first (λ b. b == 32) rest →
    behind ≡ after_first (λ b. b == 32) rest →
    words text ≡ map (λ (w : Bor Text). w.now) (found ++ word ∷ []) ++ words behind
words_more text rest behind found word h p e f =
    let now : Bor Text → Text = λ w. w.now in
    h ∙ ap (λ l. map now found ++ l) (words_first rest p ∙ ap₂ (λ a b. a ∷ words b) (sym e) (sym f))
    ∙ sym (append_assoc (map now found) (word.now ∷ []) (words behind))
    ∙ ap (λ l. l ++ words behind) (sym (map-append now found (word ∷ [])))

-- the last word was found
pub words_last : (text : Text) (found : List (Bor Text)) (rest : Bor Text) →
    words text ≡ map (λ (w : Bor Text). w.now) found ++ words rest.now →
    position_or_len (λ b. b == 32) rest.now ≡ length rest.now →
    map (λ (w : Bor Text). w.now) (found ++ rest ∷ []) ≡ words text
words_last text found rest h p =
    let now : Bor Text → Text = λ w. w.now in
    map-append now found (rest ∷ []) ∙ sym (h ∙ ap (λ l. map now found ++ l) (words_none rest.now p))
