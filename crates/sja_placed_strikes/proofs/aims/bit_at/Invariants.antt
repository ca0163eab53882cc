use Rattle.std.proofs.Common.{◌≡◌}
use Rattle.std.specs.Prelude.{option_and_then}
use Rattle.text_frames.specs.FrameStories.{NodeStory, values_of}
use Rattle.sja_placed_strikes.specs.FramePlaces.{bit_of}
use Rattle.sja_placed_strikes.specs.Aims.{bit_at, counts, within}
use Rattle.sja_placed_strikes.specs.Inside.Searching.{counted}
use Rattle.sja_placed_strikes.proofs.aims.bit_at.Given as goal

-- the frame is one that isn't looked at yet
abbrev pub invariant-loop-frame : goal.invariant-loop-frame
invariant-loop-frame l =
    bit_at (values_of l.found) l.bits l.aim
    ≡ option_and_then (λ (s : NodeStory). within l.bits (bit_of s.story l.aim.place))
    (counted (counts l.aim.node l.aim.frame) l.found l.frame-index l.left)
