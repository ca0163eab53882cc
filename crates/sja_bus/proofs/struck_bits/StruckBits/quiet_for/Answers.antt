use Rattle.std.proofs.Common.{◌≡◌, ◌+◌, ℕ, arith, inl, inr, subst}
use Rattle.sja_steps.specs.Striking.{Strikes}
use Rattle.sja_bus.proofs.struck_bits.StruckBits.quiet_for.Goals as goal

pub returns-clause-quiet : goal.returns-clause-quiet
returns-clause-quiet c = λ bit node low high below.
    let left = c.fewer.ensures.left in let on = c.next_from-next.ensures.on in
    c.next_from-next.ensures.quiet bit node low (omega (arith, high, left, on)) below

pub returns-clause-longest : goal.returns-clause-longest
returns-clause-longest c =
    let all = c.requires.within in let on = c.next_from-next.ensures.on in let count = c.fewer.ensures.count in
    elim c.fewer.ensures.whole [
      | inl most ↦ inl most
      | inr least ↦ elim c.next_from-next.ensures.stop [
        | inl end ↦ inl (omega (arith, least, end, all, on, count))
        | inr (node, low, hit) ↦
            let at : c.next_from-next.result ≡ c.args.from + c.fewer.result = omega (arith, least, on) in
            let P : ℕ → Type 0 = λ n. Strikes c.args.self.now.script n node in inr (node, low, subst P at hit)
      ]
    ]
