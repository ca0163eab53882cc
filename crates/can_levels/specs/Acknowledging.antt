-- When a receiver answers a line (Bosch CAN 2.0 part A section 3.1.1, "ACK field").
use Rattle.std.specs.Prelude.{◌≡◌, List, [], ◌∷◌, ◌++◌}
use Rattle.can_frame.specs.Frame.{FrameValue}
use Rattle.can_levels.specs.declared.level.Level.{Level}
use Rattle.can_levels.specs.declared.level.Level.TheVariants.{Recessive}
use Rattle.can_levels.specs.Check.{Crc}
use Rattle.can_levels.specs.Line.{StuffedPart}

-- the next level is the ACK slot of a line whose CRC sequence is right
pub record IsAckDue (l : List Level) : Type 0 where
  pub frame : FrameValue
  pub body : List Level
  pub check : List Level
  pub part : List Level
  pub is_part : StuffedPart frame body check part
  pub right : Crc body check
  pub whole : l ≡ part ++ Recessive ∷ []
