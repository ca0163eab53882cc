use Rattle.std.proofs.Common.{false, subst}
use Rattle.can_node_rules.specs.declared.bit_events.BitEvents.{BitEvents}
use Rattle.sja_bus.specs.Inside.Turning.{TurnOf}
use Rattle.sja_bus.proofs.AtPorts.Turning.{stands_alone}
use Rattle.sja_bus.proofs.bus_node.BusNode.stands.Goals as goal

pub returns-clause-alone : goal.returns-clause-alone
returns-clause-alone c = λ calm.
    let T : BitEvents → Type 0 = λ e. TurnOf c.args.self.now e false c.turn_of.result in
    stands_alone c.args.self.now c.turn_of.result c.is_transmitter-receiving.result c.requires.sound calm
    c.is_transmitter-receiving.ensures (subst T c.nothing.ensures c.turn_of.ensures)
