use Rattle.std.proofs.Common.{refl}
use Rattle.sja_bus.specs.declared.bus_node.BusNode.{BusNode}
use Rattle.sja_bus.proofs.OneReader.LedBusNodes.{has_read}
use Rattle.sja_bus.proofs.bus_node.BusNode.has_read.Goals as goal

pub returns : goal.returns
returns c =
    let old = c.args.self.now in let new : BusNode = record old { journal = c.enter_bits_reserved.new.self } in
    has_read old new c.args.levels.now 160 c.requires.most refl
    c.enter_bits_reserved.ensures.room c.enter_bits_reserved.ensures.entries
