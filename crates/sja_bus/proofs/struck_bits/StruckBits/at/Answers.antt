use Rattle.std.proofs.Common.{List, arith, sym, subst, inl, inr}
use Rattle.sja_steps.specs.declared.strike.Strike.{Strike}
use Rattle.sja_steps.specs.Striking.{Strikes}
use Rattle.sja_bus.specs.Inside.StrikesByBit.{Scripted}
use Rattle.sja_bus.proofs.WholeBus.Marking.{struck_both}
use Rattle.sja_bus.proofs.struck_bits.StruckBits.at.Goals as goal

-- nobody is struck where it is known that nobody is
pub returns-then-bit-self-2 : goal.returns-then-bit-self-2
returns-then-bit-self-2 c = λ node below.
    let S : Scripted → Type 0 = λ s. Strikes s.script c.args.bit node in
    let low = c.if-bit-self.true in let high = c.if-bit-self-2.true in (
      λ h. absurd (c.none.ensures node h),
      λ h. absurd (c.self.invariant.calm c.args.bit node (omega (arith, low)) (omega (arith, high)) below
          (subst S (sym c.self.view_is) h)),
    )

pub returns : goal.returns
returns c = λ node below.
    let b = c.self.inside in let bit = c.args.bit in
    let S : Scripted → Type 0 = λ s. Strikes s.script bit node in
    let P : List Strike → Type 0 = λ l. Strikes l bit node in
    let first = c.struck_by.ensures node below in let then = c.strike_in.ensures node below in
    let both = struck_both b.script b.later.items bit node in
    let one = c.as_slice.ensures in (
      λ h. subst S c.self.view_is (both.1 (elim (then.0 h) [
        | inl before ↦ elim (first.0 before) [
          | inl none ↦ absurd (c.none-nodes.ensures node none)
          | inr hit ↦ inl (subst P one hit)
        ]
        | inr hit ↦ inr hit
      ])),
      λ h. then.1 (elim (both.0 (subst S (sym c.self.view_is) h)) [
        | inl hit ↦ inl (first.1 (inr (subst P (sym one) hit)))
        | inr hit ↦ inr hit
      ]),
    )
