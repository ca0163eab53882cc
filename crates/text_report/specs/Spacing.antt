-- Words that are written one after another, each behind a space (this project's own rule).
use Rattle.std.specs.Prelude.{ℕ, List, ◌∷◌}
use Rattle.lemmas.specs.Gathering.{gathered}

-- a word behind a space
abbrev pub spaced : List ℕ → List ℕ
spaced word = 32 ∷ word

abbrev pub all_spaced : List (List ℕ) → List ℕ
all_spaced = gathered spaced
