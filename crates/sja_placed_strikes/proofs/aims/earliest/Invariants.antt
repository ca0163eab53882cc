use Rattle.text_frames.specs.FrameStories.{values_of}
use Rattle.sja_placed_strikes.specs.Inside.Searching.{IsEarliest}
use Rattle.sja_placed_strikes.proofs.aims.earliest.Given as goal

-- the earliest one so far
abbrev pub invariant-loop-index : goal.invariant-loop-index
invariant-loop-index l = IsEarliest (values_of l.found) l.bits l.aims l.index l.first
