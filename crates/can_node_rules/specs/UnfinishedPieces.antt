-- How far the piece under way is, by the bits of the piece that came. c is the context right before the piece.
use Rattle.std.specs.Prelude.{◌≡◌, ◌≢◌, ◌+◌, ◌-◌, ◌%◌, ◌<◌, ◌≤◌, ℕ, false}
use Rattle.std.specs.Prelude.{fold, Some, List, [], ◌∷◌, ◌++◌, replicate}
use Rattle.can_levels.specs.declared.level.Level.{Level}
use Rattle.can_levels.specs.declared.level.Level.TheVariants.{Dominant, Recessive}
use Rattle.can_levels.specs.Stuffing.{EndsInEqual}
use Rattle.can_levels.specs.Reading.{IsPastPart}
use Rattle.can_levels.specs.Streaming.{IsReadable}
use Rattle.can_node_rules.specs.declared.role.Role.{Role}
use Rattle.can_node_rules.specs.declared.role.Role.TheVariants.{Transmitter, Receiver}
use Rattle.can_node_rules.specs.declared.request.Request.{Request}
use Rattle.can_node_rules.specs.Bits.{Bit, dominant_bit, recessive_bits, dominant_bits, seen_of, IsFirst}
use Rattle.can_node_rules.specs.Context.{ContextValue, integration_count, interframe_count}
use Rattle.can_node_rules.specs.Counting.{next_run}
use Rattle.can_node_rules.specs.Pieces.{Place, Piece, sent_at}
use Rattle.can_node_rules.specs.Pieces.Place.{AtReset, AtIntegration, AtIdle, AfterSof}
use Rattle.can_node_rules.specs.Pieces.Place.{AtLastEofBit, AtFlag, AtDelimiter, AtInterframeSpace}
use Rattle.can_node_rules.specs.Frames.{AllAcknowledge, Receives, IsWithin, SentPart, GoesWell}
use Rattle.can_node_rules.specs.Table.{EndsInEleven, Elevens, Row}

-- ---- waiting for the bus

-- so many times eleven recessive levels are waited for; `run` of the next eleven came
pub record IsIntegrating (left run : ℕ) (c : ContextValue) (bits : List Bit) : Type 0 where
  pub done : ℕ
  pub front : List Level
  pub begun : List Level
  pub whole : bits ≡ recessive_bits (front ++ begun)
  pub elevens : Elevens done front
  pub count : done + left ≡ integration_count c
  pub some : 1 ≤ left
  pub few : run < 11
  pub waits : IsFirst EndsInEleven (begun ++ replicate (11 - run) Recessive)
  pub counted : fold next_run 0 (seen_of bits) ≡ run

-- ---- in a frame

-- the bits of a frame, from its SOF on: where interframe space ended with SOF, that bit stands before the piece
abbrev pub frame_bits : Place → List Bit → List Bit
frame_bits AfterSof bits = dominant_bit Dominant ∷ bits
frame_bits AtIdle bits = bits
frame_bits AtReset bits = bits
frame_bits AtIntegration bits = bits
frame_bits AtLastEofBit bits = bits
frame_bits AtFlag bits = bits
frame_bits AtDelimiter bits = bits
frame_bits AtInterframeSpace bits = bits

-- a frame began on an idle bus, or with the last bit of interframe space, its SOF
pub data IsInFrame : Place → List Bit → Type 0 where
  from_idle : (b : Bit) (bits : List Bit) → IsInFrame AtIdle (b ∷ bits)
  from_sof : (bits : List Bit) → IsInFrame AfterSof bits

-- the places where a frame may stand
pub data IsFramePlace : Place → Type 0 where
  idle_place : IsFramePlace AtIdle
  sof_place : IsFramePlace AfterSof

-- so far nothing is wrong for a receiver: a line goes on, and each dominant level that it drove was seen
pub record AllRight (l : List Level) (bits : List Bit) : Type 0 where
  pub readable : IsReadable (l ++ seen_of bits)
  pub answered : (before after : List Bit) → bits ≢ before ++ dominant_bit Recessive ∷ after

-- a receiver has seen some levels of a frame, and more bits after them: what it receives from there on is the piece
pub record IsReceiving (c : ContextValue) (place : Place) (bits : List Bit) : Type 0 where
  pub before : List Bit
  pub more : List Bit
  pub levels : List Level
  pub whole : bits ≡ before ++ more
  pub seen : seen_of (frame_bits place bits) ≡ levels ++ seen_of more
  pub row : (all : List Bit) (p : Piece) (next : Place) → Receives c.listen levels all p next →
      Row c place (before ++ all) p next
  pub inside : ¬ IsPastPart levels
  pub answers : AllAcknowledge c.listen levels more
  pub right : AllRight levels more
  pub within : IsWithin (levels ++ seen_of more)

-- a transmitter has sent a front of its line, and all went well
pub record IsTransmitting (c now : ContextValue) (place : Place) (bits : List Bit) : Type 0 where
  pub request : Request
  pub sent : sent_at c place ≡ Some request
  pub held : now.held ≡ Some request
  pub speaks : c.listen ≡ false
  pub check : List Level
  pub part : List Level
  pub is_part : SentPart request.frame check part
  pub well : GoesWell c.self_test part (frame_bits place bits)
  pub more : well.rest ≢ []

abbrev pub ByRole : Role → ContextValue → ContextValue → Place → List Bit → Type 0
ByRole Transmitter c now place bits = IsTransmitting c now place bits
ByRole Receiver c now place bits = IsReceiving c place bits

-- ---- flags, delimiters, interframe space

-- so many bits of a dominant flag came
pub record IsInDominantFlag (n : ℕ) (c : ContextValue) (bits : List Bit) : Type 0 where
  pub few : n < 6
  pub whole : bits ≡ dominant_bits (replicate n Dominant)

-- a passive flag waits for six equal levels, of which so many like this one came
pub record IsInPassiveFlag (n : ℕ) (last : Level) (c : ContextValue) (bits : List Bit) : Type 0 where
  pub levels : List Level
  pub whole : bits ≡ recessive_bits levels
  pub few : n < 6
  pub none : n ≡ 0 → levels ≡ []
  pub waits : IsFirst (EndsInEqual 6) (levels ++ replicate (6 - n) last)

abbrev pub IsInFlag : Level → ℕ → Level → ContextValue → List Bit → Type 0
IsInFlag Dominant n last c bits = IsInDominantFlag n c bits
IsInFlag Recessive n last c bits = IsInPassiveFlag n last c bits

-- so many dominant levels, counted from 1 to 8 again and again
pub data IsCycle : ℕ → ℕ → Type 0 where
  nothing : IsCycle 0 0
  some : (k n : ℕ) → n < 8 → k % 8 ≡ n → IsCycle (k + 1) (n + 1)

-- after a flag so many dominant levels came, and then so many recessive ones
pub record IsInDelimiter (dominant recessive : ℕ) (bits : List Bit) : Type 0 where
  pub count : ℕ
  pub cycle : IsCycle count dominant
  pub few : recessive < 8
  pub whole : bits ≡ recessive_bits (replicate count Dominant ++ replicate recessive Recessive)

-- so many recessive levels of interframe space came
pub record IsInInterframeSpace (n : ℕ) (c : ContextValue) (bits : List Bit) : Type 0 where
  pub few : n < interframe_count c
  pub whole : bits ≡ recessive_bits (replicate n Recessive)
