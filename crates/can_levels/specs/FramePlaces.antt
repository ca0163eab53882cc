-- The place of a level in a frame: its segment, and how many levels of it came before; stuff bits are counted by
-- themselves (SJA1000 data sheet, 6.4.9; the numbers are this project's own rule).
use Rattle.std.specs.Prelude.{◌≡◌, ◌+◌, ◌-◌, ℕ, nat_lt, if◌then◌else◌, List, [], ◌∷◌, ◌++◌, length}
use Rattle.can_frame.specs.Frame.{FrameValue}
use Rattle.can_levels.specs.declared.level.Level.{Level}
use Rattle.can_levels.specs.declared.segment.Segment.{Segment}
use Rattle.can_levels.specs.declared.frame_place.FramePlace.{FramePlace}
use Rattle.can_levels.specs.declared.frame_place.FramePlace.TheVariants.{Plain, StuffBit}
use Rattle.can_levels.specs.Fields.{says_ext, says_count}
use Rattle.can_levels.specs.Stuffing.{EndsInEqual, IsUnstuffed}
use Rattle.can_levels.specs.Line.{StuffedPart}
use Rattle.can_levels.specs.Reading.{IsPastPart}
use Rattle.can_levels.specs.Segments.{segments_of, segment_at, segment_after}

-- in a table of segments, whose first one begins at this place: how many places of its segment stand before a place
abbrev pub index_in : ℕ → List (ℕ × Segment) → ℕ → ℕ
index_in first [] place = place - first
index_in first (row ∷ rows) place = if nat_lt place (row.0) then place - first else index_in (row.0) rows place

-- of the level at a place of a body and its CRC sequence that begins with w
abbrev pub index_at : List Level → ℕ → ℕ
index_at w place = index_in 0 (segments_of (says_ext w) (says_count w)) place

-- the place of the n-th level after the stuffed part, counted from 0: CRC delimiter, ACK slot, ACK delimiter, EOF
abbrev pub place_after : ℕ → FramePlace
place_after n = Plain (segment_after n) (n - 3)

-- the place of the next level after levels of a line
pub data IsNextPlace (l : List Level) : FramePlace → Type 0 where
  plain : (w : List Level) → IsUnstuffed w l → ¬ EndsInEqual 5 l → ¬ IsPastPart l →
      IsNextPlace l (Plain (segment_at w (length w)) (index_at w (length w)))
  stuff_bit : (w : List Level) → IsUnstuffed w l → EndsInEqual 5 l → ¬ IsPastPart l →
      IsNextPlace l (StuffBit (length l - length w + 1))
  after_part : {f : FrameValue} {b c : List Level} (part after : List Level) → StuffedPart f b c part →
      l ≡ part ++ after → IsNextPlace l (place_after (length after))
