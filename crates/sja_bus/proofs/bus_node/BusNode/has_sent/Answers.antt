use Rattle.std.proofs.Common.{refl}
use Rattle.sja_bus.specs.declared.bus_node.BusNode.{BusNode}
use Rattle.sja_bus.proofs.OneReader.LedBusNodes.{has_sent}
use Rattle.sja_bus.proofs.bus_node.BusNode.has_sent.Goals as goal

pub returns : goal.returns
returns c =
    let old = c.args.self.now in
    let new : BusNode = record old { drives = c.drive-self.result; journal = c.enter_bits_reserved.new.self } in
    has_sent old new c.args.levels.now refl c.enter_bits_reserved.ensures.room c.enter_bits_reserved.ensures.entries
    c.drive-self.ensures
