use Rattle.std.proofs.Common.{◌≡◌, ◌≤◌, ◌+◌, drop}
use Rattle.sja_placed_strikes.specs.Counting.{place_count}
use Rattle.sja_placed_strikes.proofs.resolving.place_count.Given as goal

-- those so far, and those of the rest, are all
abbrev pub invariant-loop-strike : goal.invariant-loop-strike
invariant-loop-strike l = record {
  all : l.count + place_count (drop l.strike-index l.placed) ≡ place_count l.placed;
  few : l.count ≤ 1000;
}
