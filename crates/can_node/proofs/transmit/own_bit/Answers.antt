use Rattle.std.proofs.Common.{refl, sym, ◌∙◌}
use Rattle.can_node.proofs.transmit.own_bit.Goals as goal

pub returns-then-is_early_stuff : goal.returns-then-is_early_stuff
returns-then-is_early_stuff c = λ l stands readable.
    let early = sym (c.is_early_stuff.ensures l stands readable) ∙ c.if-is_early_stuff.true in
    (c.ack_is_due.result, c.ack_is_due.ensures l stands, rw (c.if-ack_is_due.false, c.if-lost.false, early) refl)
