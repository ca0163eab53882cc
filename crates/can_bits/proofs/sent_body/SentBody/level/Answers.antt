use Rattle.std.proofs.Common.{Some, ap, sym, ◌∙◌, arith}
use Rattle.can_bits.proofs.PackedLevels.{packed_of_frame, packed_past, packed_within}
use Rattle.can_bits.proofs.sent_body.SentBody.level.Goals as goal

pub returns-then-place-self-clause-packed : goal.returns-then-place-self-clause-packed
returns-then-place-self-clause-packed c =
    let before = c.if-place-self.true in
    ap Some c.of.ensures ∙ sym (packed_within c.args.self.now c.args.place (omega (arith, before)))

pub returns-then-place-self-clause-of_frame : goal.returns-then-place-self-clause-of_frame
returns-then-place-self-clause-of_frame c f h =
    returns-then-place-self-clause-packed c ∙ packed_of_frame c.args.self.now f c.args.place h

pub returns-else-place-self-clause-packed : goal.returns-else-place-self-clause-packed
returns-else-place-self-clause-packed c =
    let past = c.if-place-self.false in
    sym (packed_past c.args.self.now c.args.place (omega (arith, past)))

pub returns-else-place-self-clause-of_frame : goal.returns-else-place-self-clause-of_frame
returns-else-place-self-clause-of_frame c f h =
    returns-else-place-self-clause-packed c ∙ packed_of_frame c.args.self.now f c.args.place h
