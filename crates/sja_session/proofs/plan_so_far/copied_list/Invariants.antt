use Rattle.std.proofs.Common.{◌≡◌, ◌≤◌, length, take, vec_capacity}
use Rattle.sja_session.proofs.plan_so_far.copied_list.Given as goal

-- those so far are copied, and there is room for all
abbrev pub invariant-loop-step : goal.invariant-loop-step
invariant-loop-step l = record {
  items : l.list.items ≡ take l.step-index l.steps;
  room : length l.steps ≤ vec_capacity l.list;
}
