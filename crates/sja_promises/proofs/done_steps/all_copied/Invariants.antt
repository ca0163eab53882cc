use Rattle.std.proofs.Common.{◌≡◌, ◌≤◌, length, take, vec_capacity}
use Rattle.sja_promises.proofs.done_steps.all_copied.Given as goal

abbrev pub invariant-loop-one : goal.invariant-loop-one
invariant-loop-one l = record {
  items : l.list.items ≡ take l.one-index l.done;
  room : length l.done ≤ vec_capacity l.list;
}
