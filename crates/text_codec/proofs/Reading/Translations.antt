-- Frames in the notation, and by digits, and what is wrong with one.
use Rattle.std.proofs.Common.{◌≡◌, List, ℕ, refl, inl}
use Rattle.can_frame.specs.Frame.{FrameValue, IsFrame}
use Rattle.can_frame.specs.Message.{message}
use Rattle.can_notation.specs.Text.{Says}
use Rattle.can_notation.specs.Faults.{HasHash, HasIdentifier, HasRest}
use Rattle.can_notation.specs.declared.notation_fault.NotationFault.TheVariants.{Data}
use Rattle.text_codec.specs.declared.command_refusal.CommandRefusal.TheVariants.{Notation}
use Rattle.can_notation.proofs.HashLemmas.{said_parts}
use Rattle.text_codec.specs.BytesText.{bytes_text}
use Rattle.text_codec.specs.Notation.{IsTranslation}
use Rattle.text_codec.specs.Given.{Gives, RefusesGiven}

-- a frame that is said
pub said : (given : List ℕ) (f : FrameValue) → IsFrame f → Says given f → Gives given f
said given f frame says = record { frame = frame; said = inl says }

-- it has a `#`, and its message's bytes are printed
pub from_notation : (given printed : List ℕ) (f : FrameValue) → IsFrame f → Says given f →
    printed ≡ bytes_text (message f) → IsTranslation given printed
from_notation given printed f frame says is =
    (f, said given f frame says, inl ((said_parts given (f, frame, says)).0, is))

-- behind the `#` stands no data
pub no_data : (given : List ℕ) → HasHash given → HasIdentifier given → ¬ HasRest given →
    RefusesGiven given (Notation Data)
no_data given hash identifier none = inl (Data, refl, (hash, identifier, none))
