use Rattle.std.proofs.Common.{◌<◌, ℕ, List, arith, sym, ◌∙◌, subst, inl, inr}
use Rattle.sja_steps.specs.declared.strike.Strike.{Strike}
use Rattle.sja_steps.specs.Striking.{Strikes}
use Rattle.sja_bus.specs.Inside.StrikesByBit.{IsStruckOrEnd, Scripted}
use Rattle.sja_bus.proofs.WholeBus.Marking.{struck_both}
use Rattle.sja_bus.proofs.struck_bits.StruckBits.next_struck.Goals as goal

pub returns-then-self-le-MOST_WRITTEN-clause-quiet : goal.returns-then-self-le-MOST_WRITTEN-clause-quiet
returns-then-self-le-MOST_WRITTEN-clause-quiet c = λ bit node low high below hit.
    let b = c.self.inside in let S : Scripted → Type 0 = λ s. Strikes s.script bit node in
    let within = c.next_struck.ensures.within in let in_all : bit < b.table.bits = omega (arith, high, within) in
    c.next_struck.ensures.calm bit node low high in_all below
    ((c.self.invariant.table_is bit node in_all below).1 (subst S (sym c.self.view_is) hit))

pub returns-clause-quiet : goal.returns-clause-quiet
returns-clause-quiet c = λ bit node low high below hit.
    let b = c.self.inside in let S : Scripted → Type 0 = λ s. Strikes s.script bit node in
    let P : List Strike → Type 0 = λ l. Strikes l bit node in let within = c.next.ensures.within in
    elim ((struck_both b.script b.later.items bit node).0 (subst S (sym c.self.view_is) hit)) [
      | inl first ↦ c.next_strike-first.ensures.quiet bit node low (omega (arith, high, within)) below
          (subst P (sym c.as_slice.ensures) first)
      | inr then ↦ c.next.ensures.quiet bit node low high below then
    ]

pub returns-clause-stop : goal.returns-clause-stop
returns-clause-stop c =
    let b = c.self.inside in let next = c.next.result in
    let S : Scripted → Type 0 = λ s. IsStruckOrEnd s.script s.bits next in
    let P : (ℕ → List Strike → Type 0) = λ node l. Strikes l next node in
    let Q : (ℕ → ℕ → Type 0) = λ node n. Strikes c.as_slice.result.now n node in
    subst S c.self.view_is (elim c.next.ensures.stop [
      | inr (node, low, hit) ↦ inr (node, low, (struck_both b.script b.later.items next node).1 (inr hit))
      | inl same ↦ elim c.next_strike-first.ensures.stop [
        | inl end ↦ inl (same ∙ end)
        | inr (node, low, hit) ↦ inr (
          node,
          low,
          (struck_both b.script b.later.items next node).1
              (inl (subst (P node) c.as_slice.ensures (subst (Q node) (sym same) hit))),
        )
      ]
    ])
