use Rattle.std.proofs.Common.{List, OnOk, ◌++◌, ◌∷◌, [], arith, subst}
use Rattle.can_levels.specs.declared.level.Level.{Level}
use Rattle.can_bits.specs.declared.shift.Shift.{Shift}
use Rattle.can_levels.specs.Reading.{IsFaultless}
use Rattle.can_bits.specs.Shifts.{StandsFor}
use Rattle.can_levels.proofs.Whole.Faultless.{faultless_next, inside_next}
use Rattle.can_bits.proofs.shift.Shift.take_answered.Goals as goal

pub returns-then-take_inside-clause-good : goal.returns-then-take_inside-clause-good
returns-then-take_inside-clause-good c l h good =
    let taken = c.take_inside.ensures.inside c.if-take_inside.true l h in
    let right = (c.take_inside.ensures.exactly l h).0 c.if-take_inside.true in
    let begun = taken.0.begun in
    let long = inside_next l c.args.level right.inside.before_end begun in
    faultless_next l c.args.level good begun (λ nine. absurd (omega (arith, nine, long)))
    (λ eight. absurd (omega (arith, eight, long)))

pub returns-else-take_inside-clause-good : goal.returns-else-take_inside-clause-good
returns-else-take_inside-clause-good c =
    let P : Shift → Type 0 = λ s.
    OnOk c.advance_answered.result
    ((l : List Level) → StandsFor s l → IsFaultless l → IsFaultless (l ++ c.args.level ∷ [])) in
    subst P (c.take_inside.ensures.same c.if-take_inside.false) c.advance_answered.ensures.good
