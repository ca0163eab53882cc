-- Levels kept as one number (this project's own rule).
use Rattle.std.specs.Prelude.{◌≡◌, ◌≤◌, ℕ, List, length}
use Rattle.can_frame.specs.Frame.{FrameValue}
use Rattle.can_levels.specs.declared.level.Level.{Level}
use Rattle.can_bits.specs.declared.sent_body.SentBody.{SentBody}
use Rattle.can_levels.specs.Digits.{value}
use Rattle.can_levels.specs.Body.{sent_body}

-- the word and the count of these levels: a body and its CRC sequence have 118 at most
pub record Packs (word place : ℕ) (w : List Level) : Type 0 where
  pub place_is : place ≡ length w
  pub word_is : word ≡ value w
  pub room : length w ≤ 118

-- b is the packed body that a transmitter of f sends
abbrev pub IsSentBody : SentBody → FrameValue → Type 0
IsSentBody b f = Packs b.word b.length (sent_body f)
