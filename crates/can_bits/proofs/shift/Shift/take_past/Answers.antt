use Rattle.std.proofs.Common.{◌≡◌, true, false}
use Rattle.can_bits.proofs.DueLemmas.{inside_now}
use Rattle.can_levels.proofs.Reader.Inside.{not_past}
use Rattle.can_bits.proofs.Reader.Quick.{right_no_fault}
use Rattle.can_bits.proofs.shift.Shift.take_past.Goals as goal

pub returns-in-Some-clause-exactly : goal.returns-in-Some-clause-exactly
returns-in-Some-clause-exactly c l h = (
  λ t. absurd (let wrong : false ≡ true = t in cc),
  λ right.
      absurd (right_no_fault c.args.self.now l c.args.level c.in-Some.field-0 c.in-Some.is h right.right),
)

pub returns-in-Stuffed-clause-exactly : goal.returns-in-Stuffed-clause-exactly
returns-in-Stuffed-clause-exactly c l h = (
  λ t. absurd (let wrong : false ≡ true = t in cc),
  λ right. absurd (not_past (inside_now c.args.self.now l c.in-None.is c.in-Stuffed.is h).part right.past),
)
