use Rattle.std.proofs.Common.{Option, subst}
use Rattle.can_levels.specs.declared.shift_fault.ShiftFault.{ShiftFault}
use Rattle.can_bits.specs.Shifts.{StandsBy}
use Rattle.can_bits.proofs.DueLemmas.{broke_not_readable}
use Rattle.can_bits.proofs.Reader.Places.{reads_inside, reads_past}
use Rattle.can_bits.proofs.Reader.Told.{judged_again, never_broke}
use Rattle.can_bits.proofs.shift.Shift.advance.Goals as goal

pub returns-in-Some-clause-judged : goal.returns-in-Some-clause-judged
returns-in-Some-clause-judged c l h right =
    let s = c.args.self.now in
    absurd (broke_not_readable s l c.in-Some.wrong (subst (λ (o : Option ShiftFault). StandsBy o s l) c.in-Some.is h)
    right)

pub returns-in-Stuffed-clause-judged : goal.returns-in-Stuffed-clause-judged
returns-in-Stuffed-clause-judged c l h right =
    c.advance_inside.ensures.judged l (reads_inside c.args.self.now l c.in-Stuffed.is h right)

pub returns-in-FixedForm-clause-judged : goal.returns-in-FixedForm-clause-judged
returns-in-FixedForm-clause-judged c l h right =
    c.advance_past.ensures.judged l (reads_past c.args.self.now l c.in-FixedForm.n c.in-FixedForm.is h right)

pub returns-in-Some-clause-again : goal.returns-in-Some-clause-again
returns-in-Some-clause-again c l front later y h right wrong whole =
    let s = c.args.self.now in
    judged_again s l front later y c.in-Some.wrong (subst (λ (o : Option ShiftFault). StandsBy o s l) c.in-Some.is h)
    right wrong whole

pub returns-in-Stuffed-clause-again : goal.returns-in-Stuffed-clause-again
returns-in-Stuffed-clause-again c l front later y h right wrong whole =
    let s = c.args.self.now in
    absurd (never_broke s l front later y (subst (λ (o : Option ShiftFault). StandsBy o s l) c.in-None.is h) wrong
    whole)

pub returns-in-FixedForm-clause-again : goal.returns-in-FixedForm-clause-again
returns-in-FixedForm-clause-again c l front later y h right wrong whole =
    let s = c.args.self.now in
    absurd (never_broke s l front later y (subst (λ (o : Option ShiftFault). StandsBy o s l) c.in-None.is h) wrong
    whole)
