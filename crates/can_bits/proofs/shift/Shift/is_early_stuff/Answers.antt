use Rattle.std.proofs.Common.{sym}
use Rattle.std.proofs.lemmas.Bool.{ne_eqb}
use Rattle.can_levels.proofs.PlaceLemmas.{late_no_stuff}
use Rattle.can_bits.proofs.Reader.Places.{reads_inside, reads_past, inside_count}
use Rattle.can_bits.proofs.Reader.Places.{inside_full, inside_not_full, past_late}
use Rattle.can_bits.proofs.shift.Shift.is_early_stuff.Goals as goal

pub returns-then-self-eq-RUN : goal.returns-then-self-eq-RUN
returns-then-self-eq-RUN c l h right =
    let inside = reads_inside c.args.self.now l c.in-Stuffed.is h right in
    rw (inside_full inside.part c.if-self-eq-RUN.true, inside_count inside.part)
    (c.is_early.ensures inside.bits inside.gathers)

pub returns-else-self-eq-RUN : goal.returns-else-self-eq-RUN
returns-else-self-eq-RUN c l h right =
    let inside = reads_inside c.args.self.now l c.in-Stuffed.is h right in
    rw (inside_not_full inside.part c.if-self-eq-RUN.false) (ne_eqb c.args.self.now.run 5 c.if-self-eq-RUN.false)

pub returns-in-FixedForm : goal.returns-in-FixedForm
returns-in-FixedForm c l h right =
    let n = c.in-FixedForm.field-0 in
    sym (late_no_stuff c.args.ext l
    (past_late c.args.ext n l (reads_past c.args.self.now l n c.in-FixedForm.is h right)))
