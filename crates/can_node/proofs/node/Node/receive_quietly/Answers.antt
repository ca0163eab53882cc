use Rattle.std.proofs.Common.{refl, sym, ◌∙◌}
use Rattle.can_node.proofs.Machine.Quiet.{quietly}
use Rattle.can_node.proofs.Machine.QuietReceiver.{receives_past}
use Rattle.can_node.proofs.node.Node.receive_quietly.Goals as goal

-- src/quiet.rt
pub returns-then-take_past-clause-quiet : goal.returns-then-take_past-clause-quiet
returns-then-take_past-clause-quiet c = λ stage receiver goes.
    let old = c.args.self.now in
    let taken = c.if-take_past.true in
    quietly old _ c.args.level refl refl
    (receives_past old c.take_past.new.self c.acknowledgement-self.result c.args.level stage receiver
    (sym c.acknowledgement_tells.ensures ∙ c.if-acknowledgement_tells.false)
    (λ l stood. (c.take_past.ensures.exactly l stood).0 taken)
    (c.take_past.ensures.takes taken)
    (λ l stood on shown.
    (let yes = (c.frame_is_next.ensures l c.args.level stood on).1 shown in let no = c.if-frame_is_next.false in cc))
    c.acknowledgement-self.ensures)
