use Rattle.std.proofs.Common.{arith}
use Rattle.sja_bus.proofs.Links.BusNodeParts.{open_else}
use Rattle.sja_bus.proofs.bus_node.BusNode.has_begun.Goals as goal

pub returns-in_default-clause-yes : goal.returns-in_default-clause-yes
returns-in_default-clause-yes c = λ e z. let one = open_else c.args.self.now.activity
    c.in_default.not-Between in omega (arith, one, z)
