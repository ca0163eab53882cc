-- What `message` prints (this project's own rule). Its text is a frame in can-utils' notation where it has a `#`, and
-- else a message's hexadecimal digits.
use Rattle.std.specs.Prelude.{◌≡◌, ◌⊎◌, ℕ, List, [], ◌∷◌, ◌++◌}
use Rattle.can_frame.specs.Frame.{FrameValue}
use Rattle.can_frame.specs.Message.{message}
use Rattle.can_notation.specs.Text.{text}
use Rattle.can_notation.specs.Faults.{HasHash}
use Rattle.text_codec.specs.Given.{Gives}
use Rattle.text_codec.specs.BytesText.{bytes_text}

-- a frame in the notation becomes its message's bytes, and a message's digits become its frame in the notation, with a
-- line feed
abbrev pub IsTranslation : List ℕ → List ℕ → Type 0
IsTranslation given printed =
    (f : FrameValue) × Gives given f
    × ((HasHash given × (printed ≡ bytes_text (message f))) ⊎ (¬ HasHash given × (printed ≡ text f ++ 10 ∷ [])))
