use Rattle.std.proofs.Common.{◌≡◌, inl, inr, rules}
use Rattle.std.proofs.lemmas.Bool.{cases_Bool}
use Rattle.can_bits.proofs.Reader.Quick.{right_no_fault, right_differs}
use Rattle.can_bits.proofs.shift.Shift.is_right_inside.Goals as goal

pub returns-in-Some-clause-only : goal.returns-in-Some-clause-only
returns-in-Some-clause-only c l h right =
    absurd (right_no_fault c.args.self.now l c.args.level c.in-Some.field-0 c.in-Some.is h right.right)

pub returns-else-self-ne-RUN-clause-only : goal.returns-else-self-ne-RUN-clause-only
returns-else-self-ne-RUN-clause-only c l h right =
    elim (cases_Bool c.ne.result) [
      | inl differs ↦ differs
      | inr like ↦
          let same : c.args.level ≡ c.args.self.now.last = search rules in
          absurd (right_differs c.args.self.now l c.args.level c.in-None.is c.in-Stuffed.is h c.if-self-ne-RUN.false
          same right)
    ]
