use Rattle.std.proofs.Common.{◌≡◌, Bool, IsTrue, ◌++◌, ◌∷◌, [], true, false, refl, sym, ◌∙◌, arith}
use Rattle.can_levels.specs.declared.level.Level.TheVariants.{Recessive}
use Rattle.can_levels.specs.Digits.{digit, level_of}
use Rattle.can_bits.proofs.DueLemmas.{due_by, due_readable}
use Rattle.can_bits.proofs.shift.Shift.ack_is_due.Goals as goal

-- two answers that are the same digit
truth : (a b : Bool) → digit (level_of a) ≡ digit (level_of b) → IsTrue a → IsTrue b
truth true true h t = t
truth false false h t = t
truth true false h t = absurd (omega arith)
truth false true h t = absurd (omega arith)

pub returns-then-is_past : goal.returns-then-is_past
returns-then-is_past c l h =
    let past = c.is_past.ensures.yes l h c.if-is_past.true in
    let due =
    due_by c.check_is_right.result l past
    (c.check_is_right.ensures (past.body ++ past.check) past.body past.check past.gathers refl past.is_part.check) in
    (λ t. due.0 (truth _ _ (omega arith) t), due.1)

pub returns-else-is_past : goal.returns-else-is_past
returns-else-is_past c l h = (
  λ t. absurd (let wrong : false ≡ true = t in cc),
  λ due.
      sym c.if-is_past.false
      ∙ c.is_past.ensures.only due.frame l due.body due.check due.part (Recessive ∷ []) h (due_readable l due)
      due.is_part due.whole refl,
)
