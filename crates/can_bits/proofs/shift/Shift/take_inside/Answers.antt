use Rattle.std.proofs.Common.{◌++◌, ◌∷◌, [], refl}
use Rattle.can_bits.proofs.DueLemmas.{inside_now}
use Rattle.can_bits.proofs.Reader.Quick.{right_by, early_tells}
use Rattle.can_bits.proofs.Reader.Told.{reads_readable}
use Rattle.can_bits.proofs.shift.Shift.take_inside.Goals as goal

pub returns-then-is_right_inside-clause-exactly : goal.returns-then-is_right_inside-clause-exactly
returns-then-is_right_inside-clause-exactly c l h =
    let s = c.args.self.now in
    let t = c.if-is_right_inside.true in
    let is = c.is_right_inside.ensures in
    let inside = inside_now s l (is.no_fault t) (is.in_part t) h in
    let new = c.take_right.new.self in
    let reads = c.take_right.ensures.stands l inside (λ zero. absurd (is.begun t zero)) (is.differs t) in (
      λ _. right_by s l c.args.level (is.no_fault t) (is.in_part t) (is.begun t) h
          (reads_readable new.frame_part new (l ++ c.args.level ∷ []) reads),
      λ _. refl,
    )

pub returns-then-is_right_inside-clause-inside : goal.returns-then-is_right_inside-clause-inside
returns-then-is_right_inside-clause-inside c _ l h =
    let s = c.args.self.now in
    let t = c.if-is_right_inside.true in
    let is = c.is_right_inside.ensures in
    let inside = inside_now s l (is.no_fault t) (is.in_part t) h in
    let new = c.take_right.new.self in
    let reads = c.take_right.ensures.stands l inside (λ zero. absurd (is.begun t zero)) (is.differs t) in
    early_tells new.frame_part new (l ++ c.args.level ∷ []) c.take_right.ensures.early reads
