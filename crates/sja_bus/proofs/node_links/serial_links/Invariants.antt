use Rattle.std.proofs.Common.{◌≡◌, vec_capacity}
use Rattle.sja_link.specs.NewLinks.{AreNewLinks}
use Rattle.sja_bus.proofs.node_links.serial_links.Given as goal

-- the links of so many nodes were made, and there is room for all
abbrev pub invariant-loop-node : goal.invariant-loop-node
invariant-loop-node l = record {
  room : vec_capacity l.links ≡ l.nodes;
  made : AreNewLinks l.node l.starts l.links.items;
}
