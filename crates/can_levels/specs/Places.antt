-- Places in the arbitration field, told from the levels before (SJA1000 data sheet, 6.4.8, arbitration lost capture).
use Rattle.std.specs.Prelude.{◌-◌, ◌&&◌, ℕ, Bool, true, false, nat_lt, nat_le, if◌then◌else◌}
use Rattle.std.specs.Prelude.{Option, Some, None, List, [], ◌∷◌, ◌++◌, length, reverse}
use Rattle.can_levels.specs.declared.level.Level.{Level}
use Rattle.can_levels.specs.declared.level.Level.TheVariants.{Dominant, Recessive}
use Rattle.can_levels.specs.Fields.{rtr_place}

-- whether two levels are equal
abbrev pub are_same : Level → Level → Bool
are_same Dominant Dominant = true
are_same Recessive Recessive = true
are_same Dominant Recessive = false
are_same Recessive Dominant = false

-- whether a list begins with five equal levels
unfoldable pub begins_in_five : List Level → Bool
begins_in_five (a ∷ b ∷ c ∷ d ∷ e ∷ rest) = are_same a b && are_same b c && are_same c d && are_same d e
begins_in_five rest = false

-- whether it ends in five equal levels: the next one is a stuff bit
abbrev pub is_full : List Level → Bool
is_full l = begins_in_five (reverse l)

-- a level, unless the five before it are equal
abbrev pub unless_stuff : Bool → Level → List Level
unless_stuff true x = []
unless_stuff false x = x ∷ []

-- what of some levels is no stuff bit, where others stand before them
abbrev pub plain_after : List Level → List Level → List Level
plain_after before [] = []
plain_after before (x ∷ rest) = unless_stuff (is_full before) x ++ plain_after (before ++ x ∷ []) rest

-- how many of these levels, from the start of a frame on, are no stuff bits
abbrev pub plain_count : List Level → ℕ
plain_count l = length (plain_after [] l)

-- the place code of the next level after these, where a transmitter of that format may lose arbitration there: 0 for
-- the first bit of the identifier, and so on to RTR; stuff bits have none and aren't counted
abbrev pub place_code : Bool → List Level → Option ℕ
place_code ext l =
    if is_full l then None
    else if nat_lt 0 (plain_count l) && nat_le (plain_count l) (rtr_place ext) then Some (plain_count l - 1)
    else None

-- the next level after these is a stuff bit before RTR
abbrev pub is_early_stuff : Bool → List Level → Bool
is_early_stuff ext l = is_full l && nat_le (plain_count l) (rtr_place ext)
