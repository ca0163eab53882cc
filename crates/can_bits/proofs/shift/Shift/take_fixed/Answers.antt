use Rattle.std.proofs.Common.{◌≡◌, ◌+◌, ◌++◌, ◌∷◌, [], ℕ, true, false, refl, subst, arith}
use Rattle.can_bits.specs.Inside.FrameParts.{IsPast}
use Rattle.can_bits.proofs.DueLemmas.{over_by}
use Rattle.can_levels.proofs.Readables.{breaks_not_readable}
use Rattle.can_bits.proofs.Reader.QuickPast.{right_past_by}
use Rattle.can_bits.proofs.shift.Shift.take_fixed.Goals as goal

pub returns-in-Some-clause-exactly : goal.returns-in-Some-clause-exactly
returns-in-Some-clause-exactly c l h = (
  λ t. absurd (let wrong : false ≡ true = t in cc),
  λ right.
      absurd (breaks_not_readable l c.args.level c.in-Some.field-0 (c.in-Some.ensures.broken l h) right.right),
)

pub returns-then-n-clause-exactly : goal.returns-then-n-clause-exactly
returns-then-n-clause-exactly c l h =
    let s = c.args.self.now in
    let m = l ++ c.args.level ∷ [] in
    let here = c.if-n.true in
    let ten : c.args.n + 1 ≡ 10 = omega (arith, here) in
    let P : ℕ → Type 0 = λ k. IsPast k s.gathered (s.count + 1) m in (
      λ t. absurd (let wrong : false ≡ true = t in cc),
      λ right. absurd (right.goes_on (over_by m (subst P ten (c.in-None.ensures.goes_on l h refl)))),
    )

pub returns-else-n-clause-exactly : goal.returns-else-n-clause-exactly
returns-else-n-clause-exactly c l h = (
  λ _. right_past_by c.args.n l c.args.level h c.if-n.false (c.in-None.ensures.goes_on l h refl),
  λ _. refl,
)
