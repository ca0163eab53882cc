-- A body and its CRC sequence, before stuffing (Bosch CAN 2.0 part A section 3.1.1).
use Rattle.std.specs.Prelude.{◌≡◌, List, ◌++◌, length}
use Rattle.can_frame.specs.Frame.{FrameValue, IsFrame}
use Rattle.can_levels.specs.declared.level.Level.{Level}
use Rattle.can_levels.specs.Body.{IsBody}

-- the frame f is spelt by w: a body b of it and then a CRC sequence c, right or wrong
pub record Spells (f : FrameValue) (b c w : List Level) : Type 0 where
  pub frame : IsFrame f
  pub body : IsBody f b
  pub check : length c ≡ 15
  pub whole : w ≡ b ++ c
