use Rattle.std.proofs.Common.{◌∙◌, Option, subst}
use Rattle.std.proofs.lemmas.Bool.{eq-eqb}
use Rattle.can_levels.specs.declared.shift_fault.ShiftFault.{ShiftFault}
use Rattle.can_bits.specs.Shifts.{StandsBy}
use Rattle.can_bits.proofs.DueLemmas.{broke_not_readable, inside_now, inside_no_part, past_now, past_count}
use Rattle.can_bits.proofs.shift.Shift.is_past.Goals as goal

pub returns-in-Some-clause-only : goal.returns-in-Some-clause-only
returns-in-Some-clause-only c f l b check part after h right is_part whole count =
    let s = c.args.self.now in
    absurd (broke_not_readable s l c.in-Some.field-0 (subst (λ (o : Option ShiftFault). StandsBy o s l) c.in-Some.is h)
    right)

pub returns-in-Stuffed-clause-only : goal.returns-in-Stuffed-clause-only
returns-in-Stuffed-clause-only c f l b check part after h right is_part whole count =
    absurd (inside_no_part l part after (inside_now c.args.self.now l c.in-None.is c.in-Stuffed.is h) is_part whole)

pub returns-in-FixedForm-clause-only : goal.returns-in-FixedForm-clause-only
returns-in-FixedForm-clause-only c f l b check part after h right is_part whole count =
    let past = past_now c.args.self.now l c.in-FixedForm.n c.in-None.is c.in-FixedForm.is h in
    eq-eqb c.in-FixedForm.n c.args.count (past_count c.in-FixedForm.n l part after past is_part whole ∙ count)
