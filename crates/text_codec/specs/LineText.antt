-- Levels as text (this project's own rule).
use Rattle.std.specs.Prelude.{ℕ, List, [], ◌∷◌, ◌++◌, map}
use Rattle.can_levels.specs.declared.level.Level.{Level}
use Rattle.can_levels.specs.declared.level.Level.TheVariants.{Dominant, Recessive}

-- the digits 0 and 1
abbrev pub symbol : Level → ℕ
symbol Dominant = 48
symbol Recessive = 49

-- a digit a level, and a line feed
abbrev pub line_text : List Level → List ℕ
line_text levels = map symbol levels ++ 10 ∷ []
