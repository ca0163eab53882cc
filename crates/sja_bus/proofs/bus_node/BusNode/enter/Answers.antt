use Rattle.std.proofs.Common.{refl}
use Rattle.sja_bus.specs.declared.bus_node.BusNode.{BusNode}
use Rattle.sja_bus.proofs.Links.BusNodeParts.{sound_entered}
use Rattle.sja_bus.proofs.bus_node.BusNode.enter.Goals as goal

pub returns-in-Ok-clause-sound : goal.returns-in-Ok-clause-sound
returns-in-Ok-clause-sound c = λ follows reads.
    let was = c.args.self.now in
    let new : BusNode = record was { journal = c.enter.new.self } in
    sound_entered was new c.args.entry refl c.in-Ok.ensures.ok.0 follows reads
