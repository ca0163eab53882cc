-- The texts of strikes, and for how many strikes they count.
use Rattle.std.proofs.Common.{◌≡◌, ◌==◌, ◌&&◌, ◌∙◌, ℕ, Bool, true, false}
use Rattle.std.proofs.Common.{List, [], ◌∷◌, decimal, refl, sym, ap, subst, arith}
use Rattle.std.proofs.lemmas.Bool.{and_parts, eqb-true}
use Rattle.sja_plan_reading.specs.Words.{Text, words}
use Rattle.sja_plan_reading.specs.StrikeTexts.{AreStrikeWords, SaysStrike, strike_count, count_of}
use Rattle.sja_plan.specs.Plan.{IsStrikeOn}
use Rattle.sja_steps.specs.declared.strike.Strike.{Strike}
use Rattle.sja_plan_text.specs.Texts.{strike_words, strike_text}
use Rattle.sja_plan_text.specs.HasTexts.{HasStrikeText}
use Rattle.sja_plan_text.proofs.Spelling.Words.{words_joined, decimal_word, is_number-decimal, value-decimal, spells}

abbrev is_once : Strike → Bool
is_once s = s.every == 1 && s.times == 1

-- the words of a strike's text are its words
words_found : (s : Strike) → HasStrikeText s → words (strike_text s) ≡ strike_words s
words_found s h = by_test (is_once s) refl
  where
    by_test : (b : Bool) → is_once s ≡ b → words (strike_text s) ≡ strike_words s
    by_test true is = rw is (words_joined (decimal s.node) (decimal s.bit ∷ [])
        (rw (decimal_word s.node h.node, decimal_word s.bit h.bit) refl))
    by_test false is = rw is (words_joined (decimal s.node) (decimal s.bit ∷ decimal s.every ∷ decimal s.times ∷ [])
        (rw (
          decimal_word s.node h.node,
          decimal_word s.bit h.bit,
          decimal_word s.every h.every,
          decimal_word s.times h.times,
        ) refl))

-- they say it
words_said : (nodes : ℕ) (s : Strike) → IsStrikeOn nodes s → HasStrikeText s → AreStrikeWords nodes (strike_words s) s
words_said nodes s there h = by_test (is_once s) refl
  where
    by_test : (b : Bool) → is_once s ≡ b → AreStrikeWords nodes (strike_words s) s
    by_test true is =
        let (every, times) = and_parts (s.every == 1) (s.times == 1) is in
        rw is (record {
          node = (spells 0 9999999 s.node h.node (omega arith) h.node, there.node);
          bit = spells 0 9999999 s.bit h.bit (omega arith) h.bit;
          every = eqb-true s.every 1 every;
          times = eqb-true s.times 1 times;
        })
    by_test false is = rw is (record {
      node = (spells 0 9999999 s.node h.node (omega arith) h.node, there.node);
      bit = spells 0 9999999 s.bit h.bit (omega arith) h.bit;
      every = spells 1 9999999 s.every h.every there.every h.every;
      times = spells 1 9999999 s.times h.times there.times h.times;
    })

-- a strike's text says it
pub strike_said : (nodes : ℕ) (s : Strike) → IsStrikeOn nodes s → HasStrikeText s → SaysStrike nodes (strike_text s) s
strike_said nodes s there h =
    subst (λ (ws : List Text). AreStrikeWords nodes ws s) (sym (words_found s h)) (words_said nodes s there h)

-- it counts as often as it strikes
words_count : (s : Strike) → HasStrikeText s → strike_count (strike_words s) ≡ s.times
words_count s h = by_test (is_once s) refl
  where
    by_test : (b : Bool) → is_once s ≡ b → strike_count (strike_words s) ≡ s.times
    by_test true is = rw is (sym (eqb-true s.times 1 (and_parts (s.every == 1) (s.times == 1) is).1))
    by_test false is =
        rw (
          is,
          is_number-decimal s.node h.node,
          is_number-decimal s.bit h.bit,
          is_number-decimal s.every h.every,
          is_number-decimal s.times h.times,
        ) (value-decimal s.times h.times)

pub count_is_times : (s : Strike) → HasStrikeText s → count_of (strike_text s) ≡ s.times
count_is_times s h = ap strike_count (words_found s h) ∙ words_count s h

-- a strike that words say has a text
has_words : (nodes : ℕ) (ws : List Text) (s : Strike) → AreStrikeWords nodes ws s → IsStrikeOn nodes s × HasStrikeText s
has_words nodes [] s h = absurd h
has_words nodes (k ∷ []) s h = absurd h
has_words nodes (k ∷ b ∷ []) s h = (
  record { node = h.node.1; every = omega (arith, h.every); times = omega (arith, h.times) },
  record {
    node = h.node.0.2;
    bit = h.bit.2;
    every = omega (arith, h.every);
    times = omega (arith, h.times);
  },
)
has_words nodes (k ∷ b ∷ e ∷ []) s h = absurd h
has_words nodes (k ∷ b ∷ e ∷ t ∷ []) s h = (
  record { node = h.node.1; every = h.every.1; times = h.times.1 },
  record { node = h.node.0.2; bit = h.bit.2; every = h.every.2; times = h.times.2 },
)
has_words nodes (k ∷ b ∷ e ∷ t ∷ x ∷ ws) s h = absurd h

pub has_strike_text : (nodes : ℕ) (text : Text) (s : Strike) → SaysStrike nodes text s →
    IsStrikeOn nodes s × HasStrikeText s
has_strike_text nodes text s h = has_words nodes (words text) s h
