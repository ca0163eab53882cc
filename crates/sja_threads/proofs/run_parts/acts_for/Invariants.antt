use Rattle.std.proofs.Common.{◌≡◌, length, map, take, vec_len, vec_capacity}
use Rattle.sja_driver.specs.StepRuns.{most_acts}
use Rattle.sja_threads.proofs.run_parts.acts_for.Given as goal

-- those of the nodes so far
abbrev pub invariant-loop-node : goal.invariant-loop-node
invariant-loop-node l = record {
  count : vec_len l.counts ≡ l.node;
  room : vec_capacity l.counts ≡ l.nodes;
  made : l.counts.items ≡ map (λ steps. most_acts l.plan.version (length steps)) (take l.node l.plan.nodes);
}
