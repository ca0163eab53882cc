-- What `encode` prints (this project's own rule; lines are those of Bosch CAN 2.0 part A).
use Rattle.std.specs.Prelude.{◌≡◌, ℕ, List}
use Rattle.can_levels.specs.declared.level.Level.{Level}
use Rattle.can_levels.specs.Line.{IsSentLine}
use Rattle.can_frame.specs.Frame.{FrameValue}
use Rattle.text_codec.specs.Given.{Gives}
use Rattle.text_codec.specs.LineText.{line_text}

-- the text is the line that a transmitter sends of the frame that is given
abbrev pub IsEncoding : List ℕ → List ℕ → Type 0
IsEncoding given text =
    (f : FrameValue) × (l : List Level) × Gives given f × IsSentLine f l × (text ≡ line_text l)
