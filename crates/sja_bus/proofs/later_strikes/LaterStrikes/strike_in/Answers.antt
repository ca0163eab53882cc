use Rattle.std.proofs.Common.{List, sym, ap, subst, arith, inl, inr}
use Rattle.sja_steps.specs.declared.strike.Strike.{Strike}
use Rattle.sja_steps.specs.Striking.{Strikes}
use Rattle.sja_bus.specs.Inside.StrikesByBit.{Laters}
use Rattle.sja_bus.proofs.later_strikes.LaterStrikes.strike_in.Goals as goal

pub returns : goal.returns
returns c = λ node below.
    let bit = c.args.bit in let S : Laters → Type 0 = λ l. Strikes l.items bit node in
    let P : List Strike → Type 0 = λ l. Strikes l bit node in
    let early = c.requires.on in let from = ap (λ (l : Laters). l.from) c.self.view_is in
    let hit = c.struck_by.ensures node below in let kept = c.as_slice.ensures.value in
    let all = c.self.invariant bit node (omega (arith, early, from)) in (
      λ h. elim (hit.0 h) [
        | inl was ↦ inl was
        | inr hits ↦ inr (subst S c.self.view_is (all.1 (subst P kept hits)))
      ],
      λ h. hit.1 (elim h [
        | inl was ↦ inl was
        | inr hits ↦ inr (subst P (sym kept) (all.0 (subst S (sym c.self.view_is) hits)))
      ]),
    )
