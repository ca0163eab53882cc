-- What a reader of one level at a time says (Bosch CAN 2.0 part A, 3.1.1 and 5 to 7), whichever level the ACK slot has.
use Rattle.std.specs.Prelude.{◌≡◌, ◌≤◌, ℕ, Bool, List, [], ◌∷◌, ◌++◌, length, Option, Some, None, ◌↔◌, IfSome, IsTrue}
use Rattle.can_frame.specs.Frame.{FrameValue}
use Rattle.can_levels.specs.declared.level.Level.{Level}
use Rattle.can_levels.specs.declared.level.Level.TheVariants.{Recessive}
use Rattle.can_levels.specs.declared.line_fault.LineFault.{LineFault}
use Rattle.can_levels.specs.declared.line_fault.LineFault.TheVariants.{Stuff, Form, Crc as CheckFault}
use Rattle.can_levels.specs.declared.line_fault.LineFault.TheVariants.{NoAck, Truncated, Trailing}
use Rattle.can_levels.specs.declared.shift_event.ShiftEvent.{ShiftEvent}
use Rattle.can_levels.specs.Check.{Crc}
use Rattle.can_levels.specs.Line.{StuffedPart, Line}
use Rattle.can_levels.specs.Reading.{Begins, IsPastPart, IsInPart}
use Rattle.can_levels.specs.Segments.{IsNext}

-- some line begins with these levels, and its CRC sequence is right once the ACK delimiter has come (seven levels are
-- missing then)
pub record IsReadable (l : List Level) : Type 0 where
  pub begun : Begins l
  pub right : length begun.rest ≤ 7 → Crc begun.body begun.check

-- the level x after the levels l belongs to the stuffed part, past SOF, and is right
pub record IsRightInside (l : List Level) (x : Level) : Type 0 where
  pub inside : IsInPart l
  pub right : IsReadable (l ++ x ∷ [])

-- the levels are a line of f with a right CRC sequence, with either level in the ACK slot, but for this many levels at
-- its end
pub record IsLineButFor (missing : ℕ) (f : FrameValue) (l : List Level) : Type 0 where
  pub body : List Level
  pub check : List Level
  pub ack : Level
  pub rest : List Level
  pub line : Line f body check ack (l ++ rest)
  pub right : Crc body check
  pub count : length rest ≡ missing

-- a whole line has come
abbrev pub IsOver : List Level → Type 0
IsOver l = (f : FrameValue) × IsLineButFor 0 f l

-- the level x after the levels l stands past the stuffed part and is right, and the line isn't over with it
pub record IsRightPast (l : List Level) (x : Level) : Type 0 where
  pub past : IsPastPart l
  pub right : IsReadable (l ++ x ∷ [])
  pub goes_on : ¬ IsOver (l ++ x ∷ [])

-- up to its ACK slot these levels are a line, and its CRC sequence is wrong
pub record EndsInWrongCheck (l : List Level) : Type 0 where
  pub past : IsPastPart l
  pub ack : Level
  pub slot : past.rest ≡ Recessive ∷ ack ∷ []
  pub wrong : ¬ Crc past.body past.check

-- what is wrong with the level x after the levels l, which were right so far
abbrev pub BreaksWith : List Level → Level → LineFault → Type 0
BreaksWith l x (Stuff at) = (¬ Begins (l ++ x ∷ [])) × IsInPart l × (at ≡ length l)
BreaksWith l x (Form at) = (¬ Begins (l ++ x ∷ [])) × (¬ IsInPart l) × (¬ IsOver l) × (at ≡ length l)
BreaksWith l x CheckFault = EndsInWrongCheck l × (x ≡ Recessive)
BreaksWith l x (Trailing at) = IsOver l × (at ≡ length l)
BreaksWith l x NoAck = ⊥
BreaksWith l x Truncated = ⊥

-- the level goes on with a line, or is wrong in this way
abbrev pub Judges : List Level → Level → Option LineFault → Type 0
Judges l x None = IsReadable (l ++ x ∷ [])
Judges l x (Some fault) = BreaksWith l x fault

-- a frame is shown where the levels are its line but for this many at its end, and then alone
pub record ShowsFrameBut (missing : ℕ) (l : List Level) (shown : Option FrameValue) : Type 0 where
  pub some : IfSome shown (λ f. IsLineButFor missing f l)
  pub only : (f : FrameValue) → IsLineButFor missing f l → shown ≡ Some f

-- a frame comes with the sixth bit of EOF
abbrev pub ShowsFrame : List Level → Option FrameValue → Type 0
ShowsFrame l shown = ShowsFrameBut 1 l shown

-- the event of the level x after the levels l, which were right so far
pub record IsEventOf (l : List Level) (x : Level) (event : ShiftEvent) : Type 0 where
  pub place : IsNext l event.segment event.stuff
  pub frame : ShowsFrame (l ++ x ∷ []) event.frame
  pub fault : Judges l x event.fault

-- the event of the level x after any levels: where one before was wrong, that one's event again
pub record Tells (l : List Level) (x : Level) (event : ShiftEvent) : Type 0 where
  pub right_so_far : IsReadable l → IsEventOf l x event
  pub wrong_before : (front later : List Level) (y : Level) → IsReadable front → ¬ IsReadable (front ++ y ∷ []) →
      l ≡ front ++ y ∷ later → IsEventOf front y event

-- whether the CRC sequence is right, once the stuffed part has come
pub record TellsCheck (l : List Level) (answer : Option Bool) : Type 0 where
  pub some : IfSome answer (λ right. IsPastPart l)
  pub known : (f : FrameValue) (b c part after : List Level) → StuffedPart f b c part → l ≡ part ++ after →
      (right : Bool) × (answer ≡ Some right) × (IsTrue right ↔ Crc b c)
