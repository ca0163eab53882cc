use Rattle.std.proofs.Common.{◌≡◌, ◌∙◌, Some, ap, sym, subst, arith}
use Rattle.can_bits.specs.declared.body_word.BodyWord.{BodyWord}
use Rattle.can_bits.specs.Inside.Gathering.{Gathers}
use Rattle.can_bits.proofs.body_word.BodyWord.frame_or_kept.Goals as goal

-- `place` proves nothing here: by it a wrong body is refused with values
pub returns-then-is_same : goal.returns-then-is_same
returns-then-is_same c f w b check gathers spells =
    let before = c.in-Some.before in
    let same = c.is_same.ensures.0 c.if-is_same.true in
    let place : before.gathered.place ≡ c.args.self.now.place = omega (arith, ap (λ (g : BodyWord). g.place) same) in
    let kept = before.right f w b check (subst (λ (g : BodyWord). Gathers g w) (sym same) gathers) spells in
    ap Some (c.copy.ensures ∙ kept)
