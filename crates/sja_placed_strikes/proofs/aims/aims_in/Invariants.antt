use Rattle.std.proofs.Common.{◌≡◌, ◌++◌, drop}
use Rattle.lemmas.specs.Gathering.{gathered}
use Rattle.sja_placed_strikes.specs.Aims.{aims_of, aims_in}
use Rattle.sja_placed_strikes.proofs.aims.aims_in.Given as goal

-- those so far, and those of the rest, are all
abbrev pub invariant-loop-strike : goal.invariant-loop-strike
invariant-loop-strike l = l.aims.items ++ gathered aims_of (drop l.strike-index l.placed) ≡ aims_in l.placed
