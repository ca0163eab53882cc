-- What `decode` prints and refuses (this project's own rule; lines are those of Bosch CAN 2.0 part A).
use Rattle.std.specs.Prelude.{◌≡◌, ℕ, List, map}
use Rattle.can_levels.specs.declared.level.Level.{Level}
use Rattle.can_levels.specs.Reading.{IsReceived, IsFirstFault}
use Rattle.can_frame.specs.Frame.{FrameValue}
use Rattle.can_frame.specs.Message.{message}
use Rattle.text_codec.specs.declared.command_refusal.CommandRefusal.{CommandRefusal}
use Rattle.text_codec.specs.declared.command_refusal.CommandRefusal.TheVariants.{OutOfMemory, NotHexadecimal, NotALine}
use Rattle.text_codec.specs.declared.command_refusal.CommandRefusal.TheVariants.{Read, Layout, Line, Notation, Plan}
use Rattle.text_codec.specs.declared.command_refusal.CommandRefusal.TheVariants.{Run}
use Rattle.text_codec.specs.declared.command_refusal.CommandRefusal.TheVariants.{Drawing, Place, Strikes, Sweep}
use Rattle.text_codec.specs.BytesText.{bytes_text}
use Rattle.text_codec.specs.LineText.{symbol}

-- the digits 0 and 1 of a text are these levels
abbrev pub ReadsAsLevels : List ℕ → List Level → Type 0
ReadsAsLevels digits levels = digits ≡ map symbol levels

-- the text is the message of the frame whose acknowledged line the digits are
abbrev pub IsDecoding : List ℕ → List ℕ → Type 0
IsDecoding digits text =
    (f : FrameValue) × (l : List Level) × ReadsAsLevels digits l × IsReceived f l × (text ≡ bytes_text (message f))

-- why the digits are no received line: memory may be refused at any time; else they are no levels, or levels with this
-- first fault
abbrev pub RefusesLine : List ℕ → CommandRefusal → Type 0
RefusesLine digits OutOfMemory = Unit {0}
RefusesLine digits NotALine = (l : List Level) → ¬ ReadsAsLevels digits l
RefusesLine digits (Line fault) = (l : List Level) × ReadsAsLevels digits l × IsFirstFault l fault
RefusesLine digits NotHexadecimal = ⊥
RefusesLine digits Read = ⊥
RefusesLine digits (Layout fault) = ⊥
RefusesLine digits (Notation fault) = ⊥
RefusesLine digits (Plan fault) = ⊥
RefusesLine digits (Run fault) = ⊥
RefusesLine digits (Place number) = ⊥
RefusesLine digits Strikes = ⊥
RefusesLine digits (Sweep why) = ⊥
RefusesLine digits (Drawing levels) = ⊥
