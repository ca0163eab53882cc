use Rattle.std.proofs.Common.{◌≡◌, ◌≤◌, take, length, vec_capacity, vec_len}
use Rattle.std.specs.List.{AllZip}
use Rattle.can_node_rules.specs.Contending.{Fares}
use Rattle.can_node.proofs.contention.contend.Given as goal

-- the answers so far
abbrev pub invariant-loop-frame : goal.invariant-loop-frame
invariant-loop-frame l = record {
  answered : AllZip (Fares l.frames) (take l.frame-index l.frames) l.places.items;
  count : vec_len l.places ≡ l.frame-index;
  room : length l.frames ≤ vec_capacity l.places;
}
