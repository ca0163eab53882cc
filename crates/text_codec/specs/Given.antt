-- A message given as a text (this project's own rule): its frame in can-utils' notation where the text has a `#`, and
-- else its hexadecimal digits, two a byte and in either case. Spaces between digits count for nothing.
use Rattle.std.specs.Prelude.{◌≡◌, ◌⊎◌, ◌==◌, not, ℕ, List}
use Rattle.std.specs.List.{filter}
use Rattle.can_frame.specs.Frame.{FrameValue, IsFrame}
use Rattle.can_frame.specs.Message.{message}
use Rattle.can_notation.specs.Text.{Says}
use Rattle.can_notation.specs.Faults.{HasHash, HasIdentifier, HasRest}
use Rattle.can_notation.specs.declared.notation_fault.NotationFault.{NotationFault}
use Rattle.can_notation.specs.declared.notation_fault.NotationFault.TheVariants.{NoHash, Identifier, Data}
use Rattle.text_codec.specs.declared.command_refusal.CommandRefusal.{CommandRefusal}
use Rattle.text_codec.specs.declared.command_refusal.CommandRefusal.TheVariants.{Notation, OutOfMemory}
use Rattle.text_codec.specs.Message.{ReadsAs, RefusesMessage}

-- the text without its spaces
abbrev pub without_spaces : List ℕ → List ℕ
without_spaces given = filter (λ c. not (c == 32)) given

-- the text gives this frame
pub record Gives (given : List ℕ) (f : FrameValue) : Type 0 where
  pub frame : IsFrame f
  pub said : Says given f ⊎ (¬ HasHash given × ReadsAs (without_spaces given) (message f))

-- the first fault of a text with a `#`
abbrev pub IsNotationFault : List ℕ → NotationFault → Type 0
IsNotationFault given NoHash = ⊥
IsNotationFault given Identifier = HasHash given × ¬ HasIdentifier given
IsNotationFault given Data = HasHash given × HasIdentifier given × ¬ HasRest given

-- why a text gives none: a frame in the notation has such a fault; without a `#` its digits spell no message. Memory
-- may be refused at any time
abbrev pub RefusesGiven : List ℕ → CommandRefusal → Type 0
RefusesGiven given refusal =
    ((fault : NotationFault) × (refusal ≡ Notation fault) × IsNotationFault given fault)
    ⊎ (¬ HasHash given × RefusesMessage (without_spaces given) refusal)
    ⊎ (refusal ≡ OutOfMemory)
