-- What the functions that read a line promise of one another.
use Rattle.std.specs.Prelude.{◌≡◌, ◌<◌, ◌≤◌, ◌++◌, ℕ, Bool, Option, Some, None, List, [], ◌∷◌, length, take}
use Rattle.std.specs.Prelude.{string_bytes, IsUtf8}
use Rattle.sja_live.specs.Lines.{most_line, first_line, behind_line, HasNoFeed, IsReadable}
use Rattle.sja_live.specs.Mistakes.{AreMistaken, IsNoNode, IsNoNumber, IsSomeNode}
use Rattle.sja_live.specs.Opening.{IsOpeningFault}
use Rattle.sja_live.specs.Talking.{IsLeftUnanswered}
use Rattle.sja_live.specs.declared.next_line.Line.{Line}
use Rattle.sja_live.specs.declared.next_line.Line.TheVariants.{Text as LineOf, Long, NoText, Over}
use Rattle.sja_live.specs.declared.live_session_fault.LiveSessionFault.{LiveSessionFault}
use Rattle.sja_live.specs.declared.command_refusal.CommandRefusal.{CommandRefusal}
use Rattle.sja_live.specs.declared.command_refusal.CommandRefusal.TheVariants.{Mistaken, Memory}
use Rattle.sja_live.specs.declared.opening_refusal.OpeningRefusal.{OpeningRefusal}
use Rattle.sja_live.specs.declared.opening_refusal.OpeningRefusal.TheVariants.{Fault, Memory as NoMemory}
use Rattle.sja_live.specs.declared.line_fault.LineFault.{LineFault}
use Rattle.sja_live.specs.declared.line_fault.LineFault.TheVariants.{Node, Number, Place as NoPlace}
use Rattle.sja_live.specs.declared.live_command.LiveCommand.{LiveCommand}
use Rattle.sja_live.specs.declared.live_command.LiveCommand.TheVariants.{To}
use Rattle.sja_plan.specs.declared.place.Place.{Place}
use Rattle.sja_plan_reading.specs.Words.{Text, greatest, SpellsWithin, SpellsNode}

-- ---- bytes

-- of the bytes that a reader has left this one was taken, if there is one; where they are known
abbrev pub TakesByte : Option Text → Option Text → Option ℕ → Type 0
TakesByte (Some input) (Some left) None = (input ≡ []) × (left ≡ [])
TakesByte (Some input) (Some left) (Some byte) = input ≡ byte ∷ left
TakesByte (Some input) None byte = ⊥
TakesByte None left byte = Unit {0}

-- ---- lines

-- the input is this line and what is left behind it
abbrev pub IsLine : Text → Text → Line → Type 0
IsLine input left (LineOf line) =
    ¬ (input ≡ []) × (string_bytes line ≡ first_line input) × (left ≡ behind_line input)
IsLine input left Long = ¬ (input ≡ []) × (most_line < length (first_line input)) × (left ≡ behind_line input)
IsLine input left NoText =
    ¬ (input ≡ []) × (length (first_line input) ≤ most_line) × ¬ IsUtf8 (first_line input)
    × (left ≡ behind_line input)
IsLine input left Over = (input ≡ []) × (left ≡ [])

-- where the bytes are known
abbrev pub TakesLine : Option Text → Option Text → Line → Type 0
TakesLine (Some input) (Some left) line = IsLine input left line
TakesLine (Some input) None line = ⊥
TakesLine None left line = Unit {0}

-- this is a line of those bytes, whose front may have been kept alone
abbrev pub IsLineOf : Text → Line → Type 0
IsLineOf bytes (LineOf line) = (string_bytes line ≡ bytes) × IsReadable bytes
IsLineOf bytes Long = most_line < length bytes
IsLineOf bytes NoText = (length bytes ≤ most_line) × ¬ IsUtf8 bytes
IsLineOf bytes Over = ⊥

-- of the bytes that were known to be left this front was read
abbrev pub HasRead : Option Text → Option Text → Text → Type 0
HasRead (Some input) (Some left) front = input ≡ front ++ left
HasRead (Some input) None front = ⊥
HasRead None left front = Unit {0}

-- so many bytes of a line were read, in which no line feed stands, and its front was kept
pub record IsWithin (before after : Option Text) (kept : Text) (count : ℕ) : Type 0 where
  pub front : Text
  pub read : HasRead before after front
  pub plain : HasNoFeed front
  pub is : kept ≡ take most_line front
  pub many : count ≡ length front

-- a line wasn't read, or not answered, and so much of the input is left; where the bytes are known
abbrev pub LeavesLine : Option Text → Option Text → LiveSessionFault → Type 0
LeavesLine (Some input) (Some left) fault = IsLeftUnanswered fault input left
LeavesLine (Some input) None fault = ⊥
LeavesLine None left fault = Unit {0}

-- a line that is a text can be read
abbrev pub IsLineReadable : Line → Type 0
IsLineReadable (LineOf line) = IsReadable (string_bytes line)
IsLineReadable Long = Unit {0}
IsLineReadable NoText = Unit {0}
IsLineReadable Over = Unit {0}

-- ---- words

-- no command came of the words: the first mistake in them is this one, or memory was refused
abbrev pub IsCommandRefusal : ℕ → Bool → ℕ → List Text → CommandRefusal → Type 0
IsCommandRefusal version endless nodes ws (Mistaken fault) = AreMistaken version endless nodes ws fault
IsCommandRefusal version endless nodes ws Memory = Unit {0}

-- no session is opened by the line: the first mistake in it is this one, or memory was refused
abbrev pub IsOpeningRefusal : Text → OpeningRefusal → Type 0
IsOpeningRefusal line (Fault fault) = IsOpeningFault line fault
IsOpeningRefusal line NoMemory = Unit {0}

-- a node's word, a place, if its words are one's, and a number's word say how far bits run; or this is the first of
-- them that says nothing
abbrev pub SaysWay : ℕ → Text → Option Place → Text → LiveCommand → Type 0
SaysWay nodes k place n (To node p limit) =
    (place ≡ Some p) × SpellsNode nodes k node × SpellsWithin 0 greatest n limit
SaysWay nodes k place n other = ⊥

abbrev pub IsWayFault : ℕ → Text → Option Place → Text → LineFault → Type 0
IsWayFault nodes k place n Node = IsNoNode nodes k
IsWayFault nodes k place n NoPlace = (place ≡ None) × IsSomeNode nodes k
IsWayFault nodes k place n Number = (p : Place) × (place ≡ Some p) × IsSomeNode nodes k × IsNoNumber n
IsWayFault nodes k place n other = ⊥

abbrev pub IsWayRefusal : ℕ → Text → Option Place → Text → CommandRefusal → Type 0
IsWayRefusal nodes k place n (Mistaken fault) = IsWayFault nodes k place n fault
IsWayRefusal nodes k place n Memory = Unit {0}
