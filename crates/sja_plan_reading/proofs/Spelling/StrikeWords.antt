-- Texts that say no strike.
use Rattle.std.proofs.Common.{◌≡◌, ◌≢◌, ℕ, Option, List, [], ◌∷◌, length, get_or, refl, arith}
use Rattle.sja_plan_reading.specs.Words.{Text}
use Rattle.sja_plan_reading.specs.StrikeTexts.{AreStrikeWords}
use Rattle.sja_plan_reading.specs.PlacedTexts.{IsFirst, SpellsTimes}
use Rattle.sja_plan.specs.declared.place.Place.{Place}
use Rattle.sja_plan_reading.specs.declared.strike_item.StrikeItem.{StrikeItem}
use Rattle.sja_plan_reading.specs.declared.strike_item.StrikeItem.TheVariants.{AtBits, AtPlace}
use Rattle.sja_plan.specs.declared.struck_frames.StruckFrames.TheVariants.{Numbered, First}
use Rattle.sja_steps.specs.declared.strike.Strike.{Strike}

-- a strike has two words or four
pub no_strike : (nodes : ℕ) (ws : List Text) (s : Strike) → length ws ≢ 2 → length ws ≢ 4 → ¬ AreStrikeWords nodes ws s
no_strike nodes [] s a b = λ h. h
no_strike nodes (k ∷ []) s a b = λ h. h
no_strike nodes (k ∷ x ∷ []) s a b = λ h. a refl
no_strike nodes (k ∷ x ∷ e ∷ []) s a b = λ h. h
no_strike nodes (k ∷ x ∷ e ∷ t ∷ []) s a b = λ h. b refl
no_strike nodes (k ∷ x ∷ e ∷ t ∷ y ∷ ws) s a b = λ h. h

-- a list of four
pub four_words : {X : Type 0} (xs : List X) (d : X) → length xs ≡ 4 →
    xs ≡ get_or xs 0 d ∷ get_or xs 1 d ∷ get_or xs 2 d ∷ get_or xs 3 d ∷ []
four_words [] d h = absurd (omega arith)
four_words (a ∷ []) d h = absurd (omega arith)
four_words (a ∷ b ∷ []) d h = absurd (omega arith)
four_words (a ∷ b ∷ e ∷ []) d h = absurd (omega arith)
four_words (a ∷ b ∷ e ∷ t ∷ []) d h = refl
four_words (a ∷ b ∷ e ∷ t ∷ y ∷ xs) d h = absurd (omega arith)

-- a list of five
pub five_words : {X : Type 0} (xs : List X) (d : X) → length xs ≡ 5 →
    xs ≡ get_or xs 0 d ∷ get_or xs 1 d ∷ get_or xs 2 d ∷ get_or xs 3 d ∷ get_or xs 4 d ∷ []
five_words [] d h = absurd (omega arith)
five_words (a ∷ []) d h = absurd (omega arith)
five_words (a ∷ b ∷ []) d h = absurd (omega arith)
five_words (a ∷ b ∷ e ∷ []) d h = absurd (omega arith)
five_words (a ∷ b ∷ e ∷ t ∷ []) d h = absurd (omega arith)
five_words (a ∷ b ∷ e ∷ t ∷ y ∷ []) d h = refl
five_words (a ∷ b ∷ e ∷ t ∷ y ∷ z ∷ xs) d h = absurd (omega arith)

-- a word that spells no number of frames
pub no_first : (nodes : ℕ) (k t : Text) (named : Option Place) → ((n : ℕ) → ¬ SpellsTimes t n) → (s : StrikeItem) →
    ¬ IsFirst nodes k t named s
no_first nodes k t named none (AtBits s) = λ h. h
no_first nodes k t named none (AtPlace node (Numbered number) place) = λ h. h
no_first nodes k t named none (AtPlace node (First times) place) = λ h. none times h.1
