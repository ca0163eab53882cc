use Rattle.std.proofs.Common.{◌≡◌, map, take}
use Rattle.toml.specs.View.{view}
use Rattle.sja_plan_text.specs.Inside.Table.{node_data}
use Rattle.sja_plan_text.proofs.table.node_list.Given as goal

-- the nodes so far
abbrev pub invariant-loop-node : goal.invariant-loop-node
invariant-loop-node l = map view l.nodes.items ≡ map (node_data l.named) (take l.node l.plan.nodes)
