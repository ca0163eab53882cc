use Rattle.std.proofs.Common.{arith, sym, ap, subst}
use Rattle.sja_bus.specs.Inside.StrikesByBit.{IsStruckOrEnd, IsUnstruck, Scripted}
use Rattle.sja_bus.proofs.struck_bits.StruckBits.next_from.Goals as goal

pub returns-then-from-self-2-clause-quiet : goal.returns-then-from-self-2-clause-quiet
returns-then-from-self-2-clause-quiet c =
    let b = c.self.inside in let S : Scripted → Type 0 = λ s. IsUnstruck s.script c.args.from b.calm_to in
    let low = c.if-from-self.true in
    subst S c.self.view_is (λ bit node from. c.self.invariant.calm bit node (omega (arith, low, from)))

pub invariant_of-self : goal.invariant_of-self
invariant_of-self c =
    let b = c.self.inside in let inv = c.self.invariant in let next = c.next_struck-next.result in
    let Q : Scripted → Type 0 = λ s. IsUnstruck s.script c.args.from next in
    let S : Scripted → Type 0 = λ s. IsStruckOrEnd s.script s.bits next in
    let most = ap (λ (s : Scripted). s.bits) c.self.view_is in
    let within = c.next_struck-next.ensures.within in record {
      table_is = inv.table_is;
      few = inv.few;
      counted = inv.counted;
      within = omega (arith, most, within);
      calm = subst Q (sym c.self.view_is) c.next_struck-next.ensures.quiet;
      stop = λ known. subst S (sym c.self.view_is) c.next_struck-next.ensures.stop;
    }
