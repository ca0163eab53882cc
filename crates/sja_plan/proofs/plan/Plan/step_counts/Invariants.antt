use Rattle.std.proofs.Common.{◌≡◌, length, map, take, vec_len, vec_capacity}
use Rattle.sja_plan.proofs.plan.Plan.step_counts.Given as goal

-- those of the nodes so far
abbrev pub invariant-loop-node : goal.invariant-loop-node
invariant-loop-node l = record {
  count : vec_len l.counts ≡ l.node;
  room : vec_capacity l.counts ≡ l.nodes;
  made : l.counts.items ≡ map (λ steps. length steps) (take l.node l.self.nodes);
}
