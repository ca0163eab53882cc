use Rattle.std.proofs.Common.{◌≡◌, drop}
use Rattle.text_frames.specs.FrameStories.{values_of}
use Rattle.sja_placed_strikes.specs.Resolving.{last_sof, last_sof_or}
use Rattle.sja_placed_strikes.proofs.resolving.last_sof.Given as goal

-- the last one is that of the rest, or this
abbrev pub invariant-loop-frame : goal.invariant-loop-frame
invariant-loop-frame l = last_sof (values_of l.found) ≡ last_sof_or l.last (values_of (drop l.frame-index l.found))
