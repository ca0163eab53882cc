-- The level of the bus (Bosch CAN 2.0 part A section 2, "Bus values").
use Rattle.std.specs.Prelude.{List, [], ◌∷◌}
use Rattle.can_levels.specs.declared.level.Level.{Level}
use Rattle.can_levels.specs.declared.level.Level.TheVariants.{Dominant, Recessive}

-- the bus is dominant where any node drives dominant
abbrev pub wired : List Level → Level
wired [] = Recessive
wired (Dominant ∷ levels) = Dominant
wired (Recessive ∷ levels) = wired levels
