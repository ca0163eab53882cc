-- Places of the arbitration field in the words of the stuffing rule (Bosch CAN 2.0 part A sections 3.1.1 and 5; SJA1000
-- data sheet, 6.4.8, arbitration lost capture).
use Rattle.std.specs.Prelude.{◌≡◌, ◌+◌, ◌≤◌, ℕ, Bool, List, length}
use Rattle.can_levels.specs.declared.level.Level.{Level}
use Rattle.can_levels.specs.Fields.{rtr_place}
use Rattle.can_levels.specs.Stuffing.{IsUnstuffed, EndsInEqual}

-- the next level after these is no stuff bit, and stands at this place of the arbitration field, counted without stuff
-- bits from the first bit of the identifier on; RTR of the format is the last one
pub record IsAtPlace (ext : Bool) (l : List Level) (code : ℕ) : Type 0 where
  pub plain : List Level
  pub unstuffed : IsUnstuffed plain l
  pub no_stuff_bit : ¬ EndsInEqual 5 l
  pub place : length plain ≡ code + 1
  pub within : length plain ≤ rtr_place ext

-- the next level after these is a stuff bit, and RTR of the format has not come
pub record IsStuffBeforeRtr (ext : Bool) (l : List Level) : Type 0 where
  pub plain : List Level
  pub unstuffed : IsUnstuffed plain l
  pub stuff_bit : EndsInEqual 5 l
  pub within : length plain ≤ rtr_place ext
