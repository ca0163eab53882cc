-- What the text of a strike says where it may name a place (this project's own rule).
use Rattle.std.specs.Prelude.{◌≡◌, ◌≢◌, ◌+◌, ◌⊎◌, ℕ, Bool, true, Option, Some, List, [], ◌∷◌, ◌++◌, codes}
use Rattle.sja_steps.specs.declared.strike.Strike.{Strike}
use Rattle.sja_plan_reading.specs.Words.{Text, words, greatest, SpellsWithin, SpellsNode}
use Rattle.sja_plan_reading.specs.PlaceNames.{place_of_word, place_of_words}
use Rattle.sja_plan_reading.specs.StrikeTexts.{AreStrikeWords}
use Rattle.sja_plan.specs.declared.place.Place.{Place}
use Rattle.sja_plan.specs.declared.placed_strike.PlacedStrike.{PlacedStrike}
use Rattle.sja_plan_reading.specs.declared.strike_item.StrikeItem.{StrikeItem}
use Rattle.sja_plan_reading.specs.declared.strike_item.StrikeItem.TheVariants.{AtBits, AtPlace}
use Rattle.sja_plan.specs.declared.struck_frames.StruckFrames.{StruckFrames}
use Rattle.sja_plan.specs.declared.struck_frames.StruckFrames.TheVariants.{Numbered, First}

-- a node, the number of a frame and a place
abbrev pub IsNumbered : ℕ → Text → Text → Option Place → StrikeItem → Type 0
IsNumbered nodes k n named (AtPlace node (Numbered number) place) =
    SpellsNode nodes k node × SpellsWithin 1 greatest n number × (named ≡ Some place)
IsNumbered nodes k n named (AtPlace node (First times) place) = ⊥
IsNumbered nodes k n named (AtBits s) = ⊥

-- `x` with a number behind it
abbrev pub SpellsTimes : Text → ℕ → Type 0
SpellsTimes word times = (n : Text) × (word ≡ codes "x" ++ n) × SpellsWithin 1 greatest n times

-- a node, how many of its first frames, and a place
abbrev pub IsFirst : ℕ → Text → Text → Option Place → StrikeItem → Type 0
IsFirst nodes k t named (AtPlace node (First times) place) =
    SpellsNode nodes k node × SpellsTimes t times × (named ≡ Some place)
IsFirst nodes k t named (AtPlace node (Numbered number) place) = ⊥
IsFirst nodes k t named (AtBits s) = ⊥

-- these are the words of this strike at a place, in a plan of so many nodes: a node, then `frame`, a number and a
-- place, or a place and how many of its first frames. A place has one word or two
abbrev pub IsPlacedOf : ℕ → List Text → StrikeItem → Type 0
IsPlacedOf nodes (k ∷ w ∷ t ∷ []) s = IsFirst nodes k t (place_of_word w) s
IsPlacedOf nodes (k ∷ v ∷ w ∷ t ∷ []) s =
    ((v ≡ codes "frame") × IsNumbered nodes k w (place_of_word t) s)
    ⊎ ((v ≢ codes "frame") × IsFirst nodes k t (place_of_words v w) s)
IsPlacedOf nodes (k ∷ f ∷ n ∷ v ∷ w ∷ []) s =
    (f ≡ codes "frame") × IsNumbered nodes k n (place_of_words v w) s
IsPlacedOf nodes ws s = ⊥

-- these are the words of a strike by bits, or, where places are known, of one at a place
abbrev pub IsItemOf : Bool → ℕ → List Text → StrikeItem → Type 0
IsItemOf places nodes ws (AtBits s) = AreStrikeWords nodes ws s
IsItemOf places nodes ws (AtPlace node frames place) =
    (places ≡ true) × ((s : Strike) → ¬ AreStrikeWords nodes ws s) × IsPlacedOf nodes ws (AtPlace node frames place)

-- the text says this
abbrev pub SaysItem : Bool → ℕ → Text → StrikeItem → Type 0
SaysItem places nodes text s = IsItemOf places nodes (words text) s

-- ---- of the texts of a document

-- the strike by bits that an item is, and those of all
abbrev pub item_bits : StrikeItem → List Strike
item_bits (AtBits s) = s ∷ []
item_bits (AtPlace node frames place) = []

abbrev pub bits_in : List StrikeItem → List Strike
bits_in [] = []
bits_in (item ∷ items) = item_bits item ++ bits_in items

-- the strike by place that the item of this number is, and those of all, where the first has this number
abbrev pub item_placed : ℕ → StrikeItem → List PlacedStrike
item_placed number (AtBits s) = []
item_placed number (AtPlace node frames place) =
    record { item = number; node = node; frames = frames; place = place } ∷ []

abbrev pub placed_from : ℕ → List StrikeItem → List PlacedStrike
placed_from number [] = []
placed_from number (item ∷ items) = item_placed number item ++ placed_from (number + 1) items
