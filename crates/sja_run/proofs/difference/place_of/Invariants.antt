use Rattle.std.proofs.Common.{◌≡◌, ◌≤◌, ◌+◌, map, take}
use Rattle.sja_run.specs.Difference.{place_of}
use Rattle.sja_run.proofs.difference.place_of.Given as goal

-- behind the lines so far
abbrev pub invariant-loop-line : goal.invariant-loop-line
invariant-loop-line l = record {
  place : l.place ≡ place_of (map (λ line. line.now) (take l.line-index l.lines));
  bound : l.place.nodes + l.place.lines ≤ l.line-index;
}
