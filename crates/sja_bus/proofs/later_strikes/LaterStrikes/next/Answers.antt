use Rattle.std.proofs.Common.{◌≡◌, ◌<◌, ◌⊎◌, ℕ, List, sym, ap, subst, arith, inl, inr}
use Rattle.sja_steps.specs.declared.strike.Strike.{Strike}
use Rattle.sja_steps.specs.Striking.{Strikes}
use Rattle.sja_bus.specs.Inside.StrikesByBit.{Laters}
use Rattle.sja_bus.proofs.later_strikes.LaterStrikes.next.Goals as goal

pub returns-clause-quiet : goal.returns-clause-quiet
returns-clause-quiet c = λ bit node low high below hits.
    let S : Laters → Type 0 = λ l. Strikes l.items bit node in
    let P : List Strike → Type 0 = λ l. Strikes l bit node in
    let early = c.requires.on in let from = ap (λ (l : Laters). l.from) c.self.view_is in
    c.next_strike.ensures.quiet bit node low high below (subst P (sym c.as_slice.ensures.value)
    ((c.self.invariant bit node (omega (arith, early, from, low))).0 (subst S (sym c.self.view_is) hits)))

pub returns-clause-stop : goal.returns-clause-stop
returns-clause-stop c =
    let next = c.next_strike.result in
    let S : Laters → Type 0 = λ l. (next ≡ c.args.end) ⊎ ((node : ℕ) × (node < 8) × Strikes l.items next node) in
    let P : (ℕ → List Strike → Type 0) = λ node l. Strikes l next node in
    let early = c.requires.on in let from = ap (λ (l : Laters). l.from) c.self.view_is in
    let on = c.next_strike.ensures.on in
    subst S c.self.view_is (elim c.next_strike.ensures.stop [
      | inl end ↦ inl end
      | inr (node, low, hit) ↦ inr (
        node,
        low,
        (c.self.invariant next node (omega (arith, early, from, on))).1 (subst (P node) c.as_slice.ensures.value hit),
      )
    ])
