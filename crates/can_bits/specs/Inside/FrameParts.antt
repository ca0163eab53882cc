-- What the fields of a reader without a fault stand for.
use Rattle.std.specs.Prelude.{◌≡◌, ◌≤◌, ◌==◌, ℕ, Bool, false, List, ◌++◌, length, take}
use Rattle.can_frame.specs.Frame.{FrameValue}
use Rattle.can_levels.specs.declared.level.Level.{Level}
use Rattle.can_bits.specs.declared.frame_part.FramePart.{FramePart}
use Rattle.can_bits.specs.declared.frame_part.FramePart.TheVariants.{Stuffed, FixedForm}
use Rattle.can_bits.specs.declared.body_word.BodyWord.{BodyWord}
use Rattle.can_bits.specs.declared.shift.Shift.{Shift}
use Rattle.can_levels.specs.Check.{Crc}
use Rattle.can_levels.specs.Line.{StuffedPart, tail}
use Rattle.can_bits.specs.Inside.Gathering.{Gathers}
use Rattle.can_levels.specs.PartSoFar.{BeginsPart}

-- a reader with these fields is in a stuffed part
pub record IsInside (g : BodyWord) (came : ℕ) (last : Level) (run : ℕ) (l : List Level) : Type 0 where
  pub bits : List Level
  pub part : BeginsPart l bits last run
  pub gathers : Gathers g bits
  pub count : came ≡ length l

-- a reader with these fields is n levels past a whole stuffed part, and its CRC sequence is right once the ACK
-- delimiter has come
pub record IsPast (n : ℕ) (g : BodyWord) (came : ℕ) (l : List Level) : Type 0 where
  pub frame : FrameValue
  pub body : List Level
  pub check : List Level
  pub part : List Level
  pub ack : Level
  pub is_part : StuffedPart frame body check part
  pub whole : l ≡ part ++ take n (tail ack)
  pub within : n ≤ 10
  pub right : 3 ≤ n → Crc body check
  pub gathers : Gathers g (body ++ check)
  pub count : came ≡ length l

-- the reader stands for levels that were all right
abbrev pub ReadsAt : FramePart → Shift → List Level → Type 0
ReadsAt Stuffed s l = IsInside s.gathered s.count s.last s.run l
ReadsAt (FixedForm n) s l = IsPast n s.gathered s.count l

-- by a reader's own fields the next level is a stuff bit: the last five are equal
abbrev pub stuff_at : FramePart → ℕ → Bool
stuff_at Stuffed run = run == 5
stuff_at (FixedForm n) run = false

abbrev pub is_stuff_next : Shift → Bool
is_stuff_next s = stuff_at s.frame_part s.run
