use Rattle.std.proofs.Common.{sym, ◌∙◌}
use Rattle.can_bits.proofs.PackedLevels.{next_fixed, next_level_is, next_plain, next_stuff}
use Rattle.can_bits.proofs.shift.Shift.next_of.Goals as goal

pub returns-then-self-eq-RUN-clause-packed : goal.returns-then-self-eq-RUN-clause-packed
returns-then-self-eq-RUN-clause-packed c =
    c.opposite.ensures
    ∙ sym (next_stuff c.args.self.now c.args.body.now c.in-Stuffed.is c.if-self-eq-RUN.true)

pub returns-else-self-eq-RUN-clause-packed : goal.returns-else-self-eq-RUN-clause-packed
returns-else-self-eq-RUN-clause-packed c =
    c.next_of.ensures.packed
    ∙ sym (next_plain c.args.self.now c.args.body.now c.in-Stuffed.is c.if-self-eq-RUN.false)

pub returns-in-FixedForm-clause-packed : goal.returns-in-FixedForm-clause-packed
returns-in-FixedForm-clause-packed c =
    sym (next_fixed c.args.self.now c.args.body.now c.in-FixedForm.field-0 c.in-FixedForm.is)

pub returns-then-self-eq-RUN-clause-of_frame : goal.returns-then-self-eq-RUN-clause-of_frame
returns-then-self-eq-RUN-clause-of_frame c f l others check part before rest x ack is h is_part right seen sent count =
    returns-then-self-eq-RUN-clause-packed c
    ∙ next_level_is c.args.self.now c.args.body.now f l others check part before rest x ack is h is_part right seen sent
    count

pub returns-else-self-eq-RUN-clause-of_frame : goal.returns-else-self-eq-RUN-clause-of_frame
returns-else-self-eq-RUN-clause-of_frame c f l others check part before rest x ack is h is_part right seen sent count =
    returns-else-self-eq-RUN-clause-packed c
    ∙ next_level_is c.args.self.now c.args.body.now f l others check part before rest x ack is h is_part right seen sent
    count

pub returns-in-FixedForm-clause-of_frame : goal.returns-in-FixedForm-clause-of_frame
returns-in-FixedForm-clause-of_frame c f l others check part before rest x ack is h is_part right seen sent count =
    returns-in-FixedForm-clause-packed c
    ∙ next_level_is c.args.self.now c.args.body.now f l others check part before rest x ack is h is_part right seen sent
    count
