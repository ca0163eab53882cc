use Rattle.std.proofs.Common.{map, take}
use Rattle.sja_sweep.specs.Inside.Reaching.{HaveErrors}
use Rattle.sja_sweep.proofs.trial_run.errors_of_nodes.Given as goal

-- those of the nodes so far
abbrev pub invariant-loop-node : goal.invariant-loop-node
invariant-loop-node l = HaveErrors (take l.node-index l.nodes) (map (λ v. v.items) l.all.items)
