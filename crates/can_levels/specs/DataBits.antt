-- The identifier, the data and whether all has come, told from a body itself (Bosch CAN 2.0 part B section 3.2).
use Rattle.std.specs.Prelude.{◌≡◌, ◌+◌, ◌*◌, ◌^◌, ℕ, Bool, true, false, List, length, slice_range}
use Rattle.can_frame.specs.Frame.{data_count}
use Rattle.can_levels.specs.declared.level.Level.{Level}
use Rattle.can_levels.specs.declared.level.Level.TheVariants.{Dominant}
use Rattle.can_levels.specs.Digits.{value}
use Rattle.can_levels.specs.Fields.{level_at, says_ext, says_rtr, says_dlc, says_count, dlc_place}

-- the identifier by the format: ID.28 to ID.18, and in an extended frame ID.17 to ID.0 after IDE
abbrev pub id_by : Bool → List Level → ℕ
id_by false w = value (slice_range w 1 12)
id_by true w = value (slice_range w 1 12) * 2 ^ 18 + value (slice_range w 14 32)

-- the identifier
abbrev pub says_id : List Level → ℕ
says_id w = id_by (says_ext w) w

-- the place after the DLC
abbrev pub data_place : List Level → ℕ
data_place w = dlc_place (says_ext w) + 4

-- how many data bytes there are
abbrev pub says_bytes : List Level → ℕ
says_bytes w = data_count (says_rtr w) (says_dlc w)

-- the levels of the data
abbrev pub data_levels : List Level → List Level
data_levels w = slice_range w (data_place w) (data_place w + 8 * says_bytes w)

-- w begins with SOF and has as many levels as it says: these are the bodies with a CRC sequence of any frame
pub record IsWhole (w : List Level) : Type 0 where
  pub begins : level_at w 0 ≡ Dominant
  pub count : length w ≡ says_count w
