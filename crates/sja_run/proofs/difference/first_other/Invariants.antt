use Rattle.std.proofs.Common.{◌≡◌, ◌≤◌, ◌-◌, length, map, take}
use Rattle.sja_run.proofs.difference.first_other.Given as goal

-- the lines so far are the same
abbrev pub invariant-loop-place : goal.invariant-loop-place
invariant-loop-place l = record {
  within : l.place ≤ length l.printed;
  both : l.place ≤ length l.expected;
  same : take l.place (map (λ line. line.now) l.printed) ≡ take l.place (map (λ line. line.now) l.expected);
}

abbrev pub decreases-loop-place : goal.decreases-loop-place
decreases-loop-place l = length l.printed - l.place
