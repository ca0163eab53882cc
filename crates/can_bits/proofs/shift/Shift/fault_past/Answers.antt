use Rattle.std.proofs.Common.{◌≡◌, ◌+◌, ◌∙◌, ◌++◌, ◌∷◌, [], ℕ, refl, sym, subst, arith}
use Rattle.can_levels.specs.Check.{Crc}
use Rattle.can_bits.specs.Inside.Gathering.{SaysWhetherRight}
use Rattle.can_bits.specs.Inside.FrameParts.{IsPast}
use Rattle.can_levels.proofs.Values.{recessive_by, dominant_by}
use Rattle.can_bits.proofs.Reader.Past.{past_slot, past_form, past_recessive, past_wrong, past_trailing}
use Rattle.can_bits.proofs.shift.Shift.fault_past.Goals.{else-n-eq2-via-then-n-eq2+else-not-check_is_right}
use Rattle.can_bits.proofs.shift.Shift.fault_past.Goals.{else-n-eq2-via-else-n-eq2}
use Rattle.can_bits.proofs.shift.Shift.fault_past.Goals as goal

pub returns-then-n-eq1-clause-goes_on : goal.returns-then-n-eq1-clause-goes_on
returns-then-n-eq1-clause-goes_on c l h none =
    let s = c.args.self.now in
    let P : ℕ → Type 0 = λ n. IsPast n s.gathered s.count l in
    let Q : ℕ → Type 0 = λ n. IsPast (n + 1) s.gathered (s.count + 1) (l ++ c.args.level ∷ []) in
    subst Q (sym c.if-n-eq1.true) (past_slot l c.args.level (subst P c.if-n-eq1.true h))

pub returns-then-not-is_recessive-clause-broken : goal.returns-then-not-is_recessive-clause-broken
returns-then-not-is_recessive-clause-broken c l h =
    let dominant = dominant_by c.args.level (sym c.is_recessive.ensures ∙ c.if-not-is_recessive.true) in
    let (none, outside, open_, count) =
    past_form c.args.n l c.args.level h (omega (arith, c.if-n-ge-LINE_END.false)) c.if-n-eq1.false dominant in
    (none, outside, open_, c.from-at.ensures ∙ count)

pub returns-else-n-eq2-clause-goes_on : goal.returns-else-n-eq2-clause-goes_on
returns-else-n-eq2-clause-goes_on c l h none =
    let recessive = recessive_by c.args.level (sym c.is_recessive.ensures ∙ c.if-not-is_recessive.false) in
    let right : c.args.n ≡ 2 → Crc h.body h.check = λ two. elim c.else-n-eq2.branch [
      | else-n-eq2-via-then-n-eq2+else-not-check_is_right b ↦
          subst (λ r. SaysWhetherRight r h.body h.check) b.if-not-check_is_right.false
          (b.check_is_right.ensures (h.body ++ h.check) h.body h.check h.gathers refl h.is_part.check)
      | else-n-eq2-via-else-n-eq2 b ↦ absurd (b.if-n-eq2.false two)
    ] in
    past_recessive c.args.n l c.args.level h (omega (arith, c.if-n-ge-LINE_END.false)) c.if-n-eq1.false recessive right

pub returns-then-n-ge-LINE_END-clause-broken : goal.returns-then-n-ge-LINE_END-clause-broken
returns-then-n-ge-LINE_END-clause-broken c l h =
    let (over, count) = past_trailing c.args.n l c.args.level h c.if-n-ge-LINE_END.true in
    (over, c.from-at.ensures ∙ count)

pub returns-then-not-check_is_right-clause-broken : goal.returns-then-not-check_is_right-clause-broken
returns-then-not-check_is_right-clause-broken c l h =
    let s = c.args.self.now in
    let P : ℕ → Type 0 = λ n. IsPast n s.gathered s.count l in
    let two = subst P c.if-n-eq2.true h in
    let wrong = subst (λ r. SaysWhetherRight r two.body two.check) c.if-not-check_is_right.true
    (c.check_is_right.ensures (two.body ++ two.check) two.body two.check two.gathers refl two.is_part.check) in
    past_wrong l c.args.level two wrong
    (recessive_by c.args.level (sym c.is_recessive.ensures ∙ c.if-not-is_recessive.false))
