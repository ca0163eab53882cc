use Rattle.can_node.specs.Standing.{context_of}
use Rattle.can_node.proofs.Machine.FrameDrives.{transmitting_drives, receiving_drives}
use Rattle.can_node.proofs.Machine.FrameTurns.{transmitting_by}
use Rattle.can_node.proofs.node.Node.level_in_frame.Goals as goal

-- src/drive.rt
pub returns-in-Transmitter : goal.returns-in-Transmitter
returns-in-Transmitter c = λ d place bits reading kept body.
    let now = context_of c.args.self.now.context in
    let h = transmitting_by c.args.self.now.shift d now place bits c.in-Transmitter.is reading in
    transmitting_drives c.args.self.now.shift d now place bits h.request c.next_of.result c.in-Transmitter.is reading
    h.held
    (λ l others check part before rest y ack stands is_part right seen driven count.
    c.next_of.ensures.of_frame h.request.frame l others check part before rest y ack (body h.request h.held).1 stands
    is_part right seen driven count)

pub returns-in-Receiver : goal.returns-in-Receiver
returns-in-Receiver c = λ d place bits reading kept body.
    receiving_drives c.args.self.now.shift d (context_of c.args.self.now.context) place bits c.acknowledgement.result
    c.in-Receiver.is reading
    (c.acknowledgement.ensures _)
