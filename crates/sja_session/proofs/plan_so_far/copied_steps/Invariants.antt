use Rattle.std.proofs.Common.{◌≡◌, length, map, take, vec_len, vec_capacity}
use Rattle.sja_session.proofs.plan_so_far.copied_steps.Given as goal

-- the steps of the nodes so far are copied, and there is room for all
abbrev pub invariant-loop-steps : goal.invariant-loop-steps
invariant-loop-steps l = record {
  count : vec_len l.list ≡ l.steps-index;
  room : vec_capacity l.list ≡ length l.nodes;
  made : map (λ steps. steps.items) l.list.items ≡ map (λ steps. steps.items) (take l.steps-index l.nodes);
}
