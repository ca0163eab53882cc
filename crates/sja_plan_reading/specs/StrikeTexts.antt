-- What the text of a strike says, and for how many strikes it counts (this project's own rule).
use Rattle.std.specs.Prelude.{◌≡◌, ◌&&◌, ℕ, if◌then◌else◌, List, [], ◌∷◌}
use Rattle.std.specs.List.{sum_by}
use Rattle.std.specs.Str.Parse.{digits_value}
use Rattle.sja_plan_reading.specs.Words.{Text, words, greatest, is_number, SpellsWithin, SpellsNode}
use Rattle.sja_steps.specs.declared.strike.Strike.{Strike}

-- two numbers: the node is struck at one bit
pub record AreOnce (nodes : ℕ) (k b : Text) (s : Strike) : Type 0 where
  pub node : SpellsNode nodes k s.node
  pub bit : SpellsWithin 0 greatest b s.bit
  pub every : s.every ≡ 1
  pub times : s.times ≡ 1

-- four numbers: it is struck at a bit, and then after every so many bits, so many times in all
pub record AreRepeated (nodes : ℕ) (k b e t : Text) (s : Strike) : Type 0 where
  pub node : SpellsNode nodes k s.node
  pub bit : SpellsWithin 0 greatest b s.bit
  pub every : SpellsWithin 1 greatest e s.every
  pub times : SpellsWithin 1 greatest t s.times

-- these are the words of this strike, in a plan of so many nodes
abbrev pub AreStrikeWords : ℕ → List Text → Strike → Type 0
AreStrikeWords nodes (k ∷ b ∷ []) s = AreOnce nodes k b s
AreStrikeWords nodes (k ∷ b ∷ e ∷ t ∷ []) s = AreRepeated nodes k b e t s
AreStrikeWords nodes ws s = ⊥

-- the text says this strike
abbrev pub SaysStrike : ℕ → Text → Strike → Type 0
SaysStrike nodes text s = AreStrikeWords nodes (words text) s

-- for how many strikes words count: four numbers for the last of them, whatever the others are, and all else for 1
abbrev pub strike_count : List Text → ℕ
strike_count (k ∷ b ∷ e ∷ t ∷ []) =
    if is_number k && is_number b && is_number e && is_number t then digits_value 10 t else 1
strike_count ws = 1

-- for how many strikes a text counts
abbrev pub count_of : Text → ℕ
count_of text = strike_count (words text)

-- for how many strikes these texts count
abbrev pub strikes_in : List Text → ℕ
strikes_in texts = sum_by count_of texts
