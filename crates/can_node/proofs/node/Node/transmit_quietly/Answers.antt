use Rattle.std.proofs.Common.{◌≡◌, true, refl}
use Rattle.can_node.proofs.Machine.Quiet.{quietly}
use Rattle.can_node.proofs.Machine.QuietTransmitter.{transmits_right}
use Rattle.can_node.proofs.node.Node.transmit_quietly.Goals.{else-ack_is_due-via-then-ack_is_due+else-not-self}
use Rattle.can_node.proofs.node.Node.transmit_quietly.Goals.{else-ack_is_due-via-else-ack_is_due}
use Rattle.can_node.proofs.node.Node.transmit_quietly.Goals as goal

-- src/quiet.rt
pub returns-then-take_past-clause-quiet : goal.returns-then-take_past-clause-quiet
returns-then-take_past-clause-quiet c = λ stage transmitter goes.
    let old = c.args.self.now in
    let taken = c.if-take_past.true in
    let strict : c.ack_is_due.result ≡ true → old.context.self_test ≡ true = λ due. elim c.else-ack_is_due.branch [
      | else-ack_is_due-via-then-ack_is_due+else-not-self b ↦ b.if-not-self.false
      | else-ack_is_due-via-else-ack_is_due b ↦ let no = b.if-ack_is_due.false in absurd cc
    ] in
    quietly old _ old.next refl refl
    (transmits_right old c.take_past.new.self c.next_of-self.result old.next c.ack_is_due.result stage transmitter refl
    c.ack_is_due.ensures strict (c.take_past.ensures.takes taken)
    (λ l stood. ((c.take_past.ensures.exactly l stood).0 taken).goes_on) c.next_of-self.ensures.of_frame)
