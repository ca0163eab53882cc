use Rattle.can_bits.proofs.Reader.Quick.{right_no_fault}
use Rattle.can_bits.proofs.shift.Shift.is_inside.Goals as goal

pub returns-in-Some-clause-only : goal.returns-in-Some-clause-only
returns-in-Some-clause-only c l level h right =
    absurd (right_no_fault c.args.self.now l level c.in-Some.field-0 c.in-Some.is h right.right)
