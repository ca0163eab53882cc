use Rattle.std.proofs.Common.{◌≡◌, ◌+◌, ◌∙◌, ℕ, Option, None, Some, ap, sym, refl, arith}
use Rattle.can_levels.specs.Places.{place_code}
use Rattle.can_levels.proofs.PlaceLemmas.{late_no_code}
use Rattle.can_bits.proofs.Reader.Places.{reads_inside, reads_past, inside_count}
use Rattle.can_bits.proofs.Reader.Places.{inside_full, inside_not_full, past_late}
use Rattle.can_bits.proofs.shift.Shift.place_code.Goals as goal

-- which place code it is, counted from 1; none is 0
abbrev number : Option ℕ → ℕ
number None = 0
number (Some n) = n + 1

same_code : (x y : Option ℕ) → number x ≡ number y → x ≡ y
same_code None None h = refl
same_code None (Some n) h = absurd (omega arith)
same_code (Some m) None h = absurd (omega arith)
same_code (Some m) (Some n) h = ap Some (omega arith)

pub returns-then-self-eq-RUN : goal.returns-then-self-eq-RUN
returns-then-self-eq-RUN c l h right =
    let inside = reads_inside c.args.self.now l c.in-Stuffed.is h right in
    rw (inside_full inside.part c.if-self-eq-RUN.true) refl

pub returns-else-self-eq-RUN : goal.returns-else-self-eq-RUN
returns-else-self-eq-RUN c l h right =
    let inside = reads_inside c.args.self.now l c.in-Stuffed.is h right in
    let code : c.place_code.result ≡ place_code c.args.ext l =
    rw (inside_not_full inside.part c.if-self-eq-RUN.false, inside_count inside.part)
    (c.place_code.ensures inside.bits inside.gathers) in
    same_code _ _ (omega arith) ∙ code

pub returns-in-FixedForm : goal.returns-in-FixedForm
returns-in-FixedForm c l h right =
    let n = c.in-FixedForm.field-0 in
    sym (late_no_code c.args.ext l
    (past_late c.args.ext n l (reads_past c.args.self.now l n c.in-FixedForm.is h right)))
