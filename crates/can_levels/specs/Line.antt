-- The whole line of a frame, from its start to EOF (Bosch CAN 2.0 part A section 3.1.1 and part B section 3.2).
use Rattle.std.specs.Prelude.{◌≡◌, List, ◌∷◌, ◌++◌, length, replicate}
use Rattle.can_frame.specs.Frame.{FrameValue, IsFrame}
use Rattle.can_levels.specs.declared.level.Level.{Level}
use Rattle.can_levels.specs.declared.level.Level.TheVariants.{Recessive}
use Rattle.can_levels.specs.Body.{IsBody, sent_body}
use Rattle.can_levels.specs.Check.{Crc}
use Rattle.can_levels.specs.Stuffing.{Stuffed}

-- s is the stuffed part of a line of the frame f, whose body is b and whose CRC sequence, right or wrong, is c
pub record StuffedPart (f : FrameValue) (b c s : List Level) : Type 0 where
  pub frame : IsFrame f
  pub body : IsBody f b
  pub check : length c ≡ 15
  pub stuffed : Stuffed (b ++ c) s

-- what follows the stuffed part: CRC delimiter, ACK slot, ACK delimiter, EOF
abbrev pub tail : Level → List Level
tail ack = Recessive ∷ ack ∷ Recessive ∷ replicate 7 Recessive

-- l is a line of f with the body b, the CRC sequence c, and this level in the ACK slot
pub record Line (f : FrameValue) (b c : List Level) (ack : Level) (l : List Level) : Type 0 where
  pub part : List Level
  pub is_part : StuffedPart f b c part
  pub whole : l ≡ part ++ tail ack

-- l is the line that a transmitter of f sends: it leaves the ACK slot recessive
abbrev pub IsSentLine : FrameValue → List Level → Type 0
IsSentLine f l = (c : List Level) × Crc (sent_body f) c × Line f (sent_body f) c Recessive l
