-- Levels as binary digits: dominant is 0, recessive is 1 (Bosch CAN 2.0 part A section 2, "Bus values").
use Rattle.std.specs.Prelude.{◌+◌, ◌*◌, ◌/◌, ◌%◌, ◌==◌, ℕ, zero, suc, Bool, true, false, List, [], ◌∷◌, ◌++◌, fold}
use Rattle.can_levels.specs.declared.level.Level.{Level}
use Rattle.can_levels.specs.declared.level.Level.TheVariants.{Dominant, Recessive}

-- the digit that a level stands for
abbrev pub digit : Level → ℕ
digit Dominant = 0
digit Recessive = 1

-- the level of a bit
abbrev pub level_of : Bool → Level
level_of false = Dominant
level_of true = Recessive

-- the other level
abbrev pub opposite : Level → Level
opposite Dominant = Recessive
opposite Recessive = Dominant

-- the lowest n binary digits of x, most significant first
unfoldable pub bits : ℕ → ℕ → List Level
bits zero x = []
bits (suc n) x = bits n (x / 2) ++ level_of (x % 2 == 1) ∷ []

-- the number that levels write in binary, most significant first
abbrev pub value : List Level → ℕ
value levels = fold (λ n level. 2 * n + digit level) 0 levels
