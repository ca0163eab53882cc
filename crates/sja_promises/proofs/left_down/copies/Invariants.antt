use Rattle.std.proofs.Common.{◌≡◌, ◌≤◌, length, take, vec_capacity}
use Rattle.sja_promises.proofs.left_down.copies.Given as goal

abbrev pub invariant-loop-left : goal.invariant-loop-left
invariant-loop-left l = record {
  items : l.list.items ≡ take l.left-index l.items;
  room : length l.items ≤ vec_capacity l.list;
}
