-- What levels say when they are read as a line (Bosch CAN 2.0 part A section 6.1; their order is this project's own).
use Rattle.std.specs.Prelude.{◌≡◌, ◌≢◌, ◌≤◌, List, [], ◌∷◌, ◌++◌, length}
use Rattle.can_frame.specs.Frame.{FrameValue}
use Rattle.can_levels.specs.declared.level.Level.{Level}
use Rattle.can_levels.specs.declared.level.Level.TheVariants.{Dominant, Recessive}
use Rattle.can_levels.specs.declared.line_fault.LineFault.{LineFault}
use Rattle.can_levels.specs.declared.line_fault.LineFault.TheVariants.{Stuff, Form, Crc as CheckFault}
use Rattle.can_levels.specs.declared.line_fault.LineFault.TheVariants.{NoAck, Truncated, Trailing}
use Rattle.can_levels.specs.Check.{Crc}
use Rattle.can_levels.specs.Line.{StuffedPart, Line}

-- l is a line of f with its CRC sequence, and it was acknowledged
pub record IsReceived (f : FrameValue) (l : List Level) : Type 0 where
  pub body : List Level
  pub check : List Level
  pub right : Crc body check
  pub line : Line f body check Dominant l

-- some line begins with these levels
pub record Begins (l : List Level) : Type 0 where
  pub frame : FrameValue
  pub body : List Level
  pub check : List Level
  pub ack : Level
  pub rest : List Level
  pub line : Line frame body check ack (l ++ rest)

-- the levels begin with the whole stuffed part of some line
pub record IsPastPart (l : List Level) : Type 0 where
  pub frame : FrameValue
  pub body : List Level
  pub check : List Level
  pub part : List Level
  pub rest : List Level
  pub is_part : StuffedPart frame body check part
  pub whole : l ≡ part ++ rest

-- some line begins with these levels, and nothing is wrong with it so far: its CRC sequence is right, once the
-- delimiter after it has come (nine levels are missing then), and it was acknowledged, once the ACK slot has come
-- (eight are missing)
pub record IsFaultless (l : List Level) : Type 0 where
  pub begun : Begins l
  pub right : length begun.rest ≤ 9 → Crc begun.body begun.check
  pub acked : length begun.rest ≤ 8 → begun.ack ≡ Dominant

-- the same, and the line has at least one level more
pub record IsOpen (l : List Level) : Type 0 where
  pub faultless : IsFaultless l
  pub more : 1 ≤ length faultless.begun.rest

-- the levels are right up to here, and with the next one no line begins
pub record BreaksAfter (front l : List Level) : Type 0 where
  pub good : IsOpen front
  pub wrong : Level
  pub rest : List Level
  pub whole : l ≡ front ++ wrong ∷ rest
  pub none : ¬ Begins (front ++ wrong ∷ [])

-- where the levels so far begin a line: the next one belongs to the stuffed part, after SOF
pub record IsInPart (front : List Level) : Type 0 where
  pub begun : front ≢ []
  pub before_end : ¬ IsPastPart front

-- the whole stuffed part has come and the delimiter after it, and the CRC sequence is wrong
pub record HasWrongCheck (l : List Level) : Type 0 where
  pub past : IsPastPart l
  pub later : List Level
  pub delimiter : past.rest ≡ Recessive ∷ later
  pub wrong : ¬ Crc past.body past.check

-- the CRC sequence is right, and the level in the ACK slot is recessive
pub record IsNotAcknowledged (l : List Level) : Type 0 where
  pub past : IsPastPart l
  pub later : List Level
  pub slot : past.rest ≡ Recessive ∷ Recessive ∷ later
  pub right : Crc past.body past.check

-- a received line has come, and after it more levels
pub record GoesOnAfter (front l : List Level) : Type 0 where
  pub frame : FrameValue
  pub received : IsReceived frame front
  pub next : Level
  pub rest : List Level
  pub whole : l ≡ front ++ next ∷ rest

-- the first thing that is wrong with a list of levels, in order of place
abbrev pub IsFirstFault : List Level → LineFault → Type 0
IsFirstFault l (Stuff at) = (front : List Level) × BreaksAfter front l × IsInPart front × (length front ≡ at)
IsFirstFault l (Form at) = (front : List Level) × BreaksAfter front l × ¬ IsInPart front × (length front ≡ at)
IsFirstFault l CheckFault = HasWrongCheck l
IsFirstFault l NoAck = IsNotAcknowledged l
IsFirstFault l Truncated = IsOpen l
IsFirstFault l (Trailing at) = (front : List Level) × GoesOnAfter front l × (length front ≡ at)

-- the levels begin with a dominant one, as far as they have come: there is none, or the first is dominant
abbrev pub BeginsDominant : List Level → Type 0
BeginsDominant [] = Unit {0}
BeginsDominant (Dominant ∷ l) = Unit {0}
BeginsDominant (Recessive ∷ l) = ⊥
