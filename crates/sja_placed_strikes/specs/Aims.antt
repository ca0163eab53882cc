-- Which place of which frame a strike by place is at (this project's own rule).
use Rattle.std.specs.Prelude.{◌==◌, ◌-◌, ℕ, nat_lt, Bool, true, if◌then◌else◌, Option, Some, None, option_and_then}
use Rattle.std.specs.Prelude.{List, [], ◌∷◌, map}
use Rattle.std.specs.List.{filter, range_with_len}
use Rattle.lemmas.specs.Gathering.{gathered}
use Rattle.sja_plan.specs.declared.placed_strike.PlacedStrike.{PlacedStrike}
use Rattle.sja_plan.specs.declared.struck_frames.StruckFrames.{StruckFrames}
use Rattle.sja_plan.specs.declared.struck_frames.StruckFrames.TheVariants.{Numbered, First}
use Rattle.text_frames.specs.FrameStories.{NodeStory}
use Rattle.sja_placed_strikes.specs.declared.aim.Aim.{Aim}
use Rattle.sja_placed_strikes.specs.declared.aimed_frame.AimedFrame.{AimedFrame}
use Rattle.sja_placed_strikes.specs.declared.aimed_frame.AimedFrame.TheVariants.{OfAll, OfNode}
use Rattle.sja_placed_strikes.specs.FramePlaces.{bit_of}

-- the frames that a strike is at, one by one
abbrev pub frames_of : StruckFrames → List AimedFrame
frames_of (Numbered number) = OfAll number ∷ []
frames_of (First times) = map OfNode (range_with_len 1 times)

abbrev pub aim_at : PlacedStrike → AimedFrame → Aim
aim_at s frame = record { item = s.item; node = s.node; frame = frame; place = s.place }

abbrev pub aims_of : PlacedStrike → List Aim
aims_of s = map (aim_at s) (frames_of s.frames)

abbrev pub aims_in : List PlacedStrike → List Aim
aims_in placed = gathered aims_of placed

-- whether a frame is one of those that are counted: all, or those of the node that is struck
abbrev pub counts : ℕ → AimedFrame → NodeStory → Bool
counts node (OfAll number) s = true
counts node (OfNode number) s = s.node == node

abbrev pub number_of : AimedFrame → ℕ
number_of (OfAll number) = number
number_of (OfNode number) = number

-- the frame of a number, counted from 1
abbrev pub frame_at : List NodeStory → ℕ → Option NodeStory
frame_at [] number = None
frame_at (s ∷ found) number = if number == 1 then Some s else frame_at found (number - 1)

-- a bit, if it is one of the first so many
abbrev pub within : ℕ → Option ℕ → Option ℕ
within bits None = None
within bits (Some bit) = if nat_lt bit bits then Some bit else None

-- the bit at which an aim's place is, in a run of at most so many bits that has these frames
abbrev pub bit_at : List NodeStory → ℕ → Aim → Option ℕ
bit_at found bits a =
    option_and_then (λ (s : NodeStory). within bits (bit_of s.story a.place))
    (frame_at (filter (counts a.node a.frame) found) (number_of a.frame))
