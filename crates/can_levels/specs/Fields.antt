-- Where the fields of a body stand, told from a body and its CRC sequence, or a beginning of them (Bosch CAN 2.0 part B
-- section 3.2). A level that hasn't come yet counts as dominant: a beginning without its DLC says more levels than it
-- has all the same.
use Rattle.std.specs.Prelude.{◌+◌, ◌*◌, ℕ, Bool, true, false, List, slice_index_or}
use Rattle.can_frame.specs.Frame.{data_count}
use Rattle.can_levels.specs.declared.level.Level.{Level}
use Rattle.can_levels.specs.declared.level.Level.TheVariants.{Dominant, Recessive}
use Rattle.can_levels.specs.Digits.{digit}

-- the level at a place
abbrev pub level_at : List Level → ℕ → Level
level_at w place = slice_index_or w place Dominant

-- whether a level is recessive
abbrev pub is_recessive : Level → Bool
is_recessive Dominant = false
is_recessive Recessive = true

-- the format: IDE is at place 13 in both
abbrev pub says_ext : List Level → Bool
says_ext w = is_recessive (level_at w 13)

-- the place of RTR
abbrev pub rtr_place : Bool → ℕ
rtr_place false = 12
rtr_place true = 32

-- the place of the DLC's first bit
abbrev pub dlc_place : Bool → ℕ
dlc_place false = 15
dlc_place true = 35

-- whether it is a remote frame
abbrev pub says_rtr : List Level → Bool
says_rtr w = is_recessive (level_at w (rtr_place (says_ext w)))

-- the number that four levels write from a place on
abbrev pub four_from : List Level → ℕ → ℕ
four_from w place =
    8 * digit (level_at w place) + 4 * digit (level_at w (place + 1)) + 2 * digit (level_at w (place + 2))
    + digit (level_at w (place + 3))

-- the DLC
abbrev pub says_dlc : List Level → ℕ
says_dlc w = four_from w (dlc_place (says_ext w))

-- how many levels the body and its CRC sequence have, by what they say: up to the DLC, its 4, the data, 15
abbrev pub says_count : List Level → ℕ
says_count w = dlc_place (says_ext w) + 19 + 8 * data_count (says_rtr w) (says_dlc w)
