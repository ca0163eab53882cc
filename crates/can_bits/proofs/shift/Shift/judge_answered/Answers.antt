use Rattle.std.proofs.Common.{◌≡◌, ◌+◌, ◌++◌, ◌∷◌, [], length, true, false, refl, sym, subst, ◌∙◌, arith, append_assoc}
use Rattle.std.proofs.lemmas.List.{same_from_push}
use Rattle.can_levels.specs.declared.level.Level.TheVariants.{Recessive}
use Rattle.can_bits.specs.Inside.Gathering.{SaysWhetherRight}
use Rattle.can_bits.proofs.DueLemmas.{past_length}
use Rattle.can_levels.proofs.Values.{recessive_by, dominant_by}
use Rattle.can_levels.proofs.Whole.Faultless.{faultless_next, tail_left}
use Rattle.can_bits.proofs.Whole.FirstFault.{wrong_check_here, no_ack_here, right_check_here}
use Rattle.can_bits.proofs.shift.Shift.judge_answered.Goals.{else-is_past-2-via-then-is_past-2+else-is_recessive}
use Rattle.can_bits.proofs.shift.Shift.judge_answered.Goals.{else-is_past-2-via-else-is_past-2}
use Rattle.can_bits.proofs.shift.Shift.judge_answered.Goals as goal

-- `first` proves nothing here: by it a wrong body is refused with values
pub returns-then-check_is_right-clause-good : goal.returns-then-check_is_right-clause-good
returns-then-check_is_right-clause-good c l h readable good =
    let x = c.args.level in
    let one = c.is_past.ensures.yes (l ++ x ∷ []) h c.if-is_past.true in
    let first : length (l ++ x ∷ []) ≡ length one.part + 1 = omega (arith, past_length (l ++ x ∷ []) one) in
    let says = c.check_is_right.ensures (one.body ++ one.check) one.body one.check one.gathers refl one.is_part.check in
    let right = subst (λ r. SaysWhetherRight r one.body one.check) c.if-check_is_right.true says in
    let (check, nine) = right_check_here (l ++ x ∷ []) one right readable.begun in
    faultless_next l x good readable.begun (λ _. check) (λ eight. absurd (omega (arith, eight, nine)))

-- `first` proves nothing here: by it a wrong body is refused with values
pub returns-else-check_is_right-clause-fault : goal.returns-else-check_is_right-clause-fault
returns-else-check_is_right-clause-fault c l later h readable good =
    let x = c.args.level in
    let one = c.is_past.ensures.yes (l ++ x ∷ []) h c.if-is_past.true in
    let first : length (l ++ x ∷ []) ≡ length one.part + 1 = omega (arith, past_length (l ++ x ∷ []) one) in
    let says = c.check_is_right.ensures (one.body ++ one.check) one.body one.check one.gathers refl one.is_part.check in
    let wrong = subst (λ r. SaysWhetherRight r one.body one.check) c.if-check_is_right.false says in
    wrong_check_here l later x one wrong

pub returns-then-is_recessive-clause-fault : goal.returns-then-is_recessive-clause-fault
returns-then-is_recessive-clause-fault c l later h readable good =
    let x = c.args.level in
    let two = c.is_past-else-is_past.ensures.yes (l ++ x ∷ []) h c.if-is_past-2.true in
    no_ack_here l later x two (recessive_by x (sym c.is_recessive.ensures ∙ c.if-is_recessive.true)) good

pub returns-else-is_past-2-clause-good : goal.returns-else-is_past-2-clause-good
returns-else-is_past-2-clause-good c l h readable good =
    let x = c.args.level in
    let b = readable.begun in
    let line = b.line in
    faultless_next l x good b
    (λ nine.
    let here =
    c.is_past.ensures.only b.frame (l ++ x ∷ []) b.body b.check line.part (Recessive ∷ []) h readable line.is_part
    (tail_left (l ++ x ∷ []) b 1 (omega (arith, nine))) refl in
    let wrong : true ≡ false = sym here ∙ c.if-is_past.false in
    absurd cc)
    (λ eight.
    let whole = tail_left (l ++ x ∷ []) b 2 (omega (arith, eight)) in
    let here =
    c.is_past-else-is_past.ensures.only b.frame (l ++ x ∷ []) b.body b.check line.part (Recessive ∷ b.ack ∷ []) h
    readable line.is_part whole refl in
    elim c.else-is_past-2.branch [
      | else-is_past-2-via-then-is_past-2+else-is_recessive w ↦
          let last =
          same_from_push l (line.part ++ Recessive ∷ []) x b.ack
          (whole ∙ sym (append_assoc line.part (Recessive ∷ []) (b.ack ∷ []))) in
          sym last.1 ∙ dominant_by x (sym w.is_recessive.ensures ∙ w.if-is_recessive.false)
      | else-is_past-2-via-else-is_past-2 w ↦
          let wrong : true ≡ false = sym here ∙ w.if-is_past-2.false in absurd cc
    ])
