use Rattle.std.proofs.Common.{◌≡◌, ◌<◌, take, vec_capacity}
use Rattle.can_levels.proofs.Stuffs.{Stands}
use Rattle.can_bits.proofs.stuffing.push_stuffed.Given as goal

-- the levels so far are stuffed, and the last run is counted
abbrev pub invariant-loop-level : goal.invariant-loop-level
invariant-loop-level l = record {
  stands : Stands (take l.level-index l.levels) l.line.items l.last l.run;
  small : l.run < 5;
  room : vec_capacity l.line ≡ vec_capacity l.fn.line;
}
