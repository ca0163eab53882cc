use Rattle.can_node.specs.Standing.{context_of}
use Rattle.can_node.proofs.Machine.FrameTurns.{receive_turn, transmit_turn, transmitting_by}
use Rattle.can_node.proofs.node.Node.after_frame_bit.Goals as goal

-- src/bit.rt
pub returns-in-Receiver-clause-turn : goal.returns-in-Receiver-clause-turn
returns-in-Receiver-clause-turn c = λ d place bits reading kept body drives lost.
    receive_turn c.args.self.now.shift c.receive.new.shift d (context_of c.args.self.now.context) place bits
    c.args.self.now.next c.args.seen c.receive.result
    c.in-Receiver.is reading kept drives c.receive.ensures.stands c.receive.ensures.turn

pub returns-in-Some-clause-turn : goal.returns-in-Some-clause-turn
returns-in-Some-clause-turn c = λ d place bits reading kept body drives lost.
    let now = context_of c.args.self.now.context in
    let h = transmitting_by c.args.self.now.shift d now place bits c.in-Transmitter.is reading in
    transmit_turn c.args.self.now.shift c.transmit.new.shift d now place bits c.args.self.now.next c.args.seen
    c.args.self.now.context.self_test c.args.lost c.in-Some.request
    c.transmit.result c.in-Transmitter.is reading.site reading.stands h kept.self_test c.in-Some.is drives lost
    c.transmit.ensures.stands c.transmit.ensures.turn
