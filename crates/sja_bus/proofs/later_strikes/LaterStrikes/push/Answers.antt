use Rattle.std.proofs.Common.{List, [], ◌∷◌, ◌++◌, sym, ap, subst, arith}
use Rattle.sja_steps.specs.declared.strike.Strike.{Strike}
use Rattle.sja_bus.specs.Inside.StrikesByBit.{Laters, StrikeAlike}
use Rattle.sja_bus.proofs.WholeBus.Laters.{alike_more, alike_then}
use Rattle.sja_bus.proofs.later_strikes.LaterStrikes.push.Goals.{After-and_all-self-inside}
use Rattle.sja_bus.proofs.later_strikes.LaterStrikes.push.Goals as goal

-- with the strike those that are kept strike as all do
one_more : (c : After-and_all-self-inside) → StrikeAlike c.and_all-self-inside.result.items c.push.new.self.items
    c.self.inside.from
one_more c =
    let b = c.self.inside in let s = c.args.strike in
    let P : List Strike → Type 0 = λ l. StrikeAlike l c.push.new.self.items b.from in
    let Q : List Strike → Type 0 = λ l. StrikeAlike (b.came.items ++ s ∷ []) l b.from in
    subst P (sym c.and_all-self-inside.ensures) (subst Q (sym c.in_ok-push.ensures.items)
    (alike_more b.came.items b.kept.items s b.from c.self.invariant))

pub invariant_of-self-then-len-self : goal.invariant_of-self-then-len-self
invariant_of-self-then-len-self c =
    let at = (goal.at.invariant_of-self-then-len-self c).After-and_all-self-inside in
    let from = ap (λ (l : Laters). l.from) c.self.view_is in let on = c.requires.on in
    alike_then c.and_all-self-inside.result.items c.push.new.self.items c.forget_passed.new.strikes.items
    c.self.inside.from c.args.from (one_more at) (omega (arith, from, on)) c.forget_passed.ensures

pub invariant_of-self-else-len-self : goal.invariant_of-self-else-len-self
invariant_of-self-else-len-self c = one_more (goal.at.invariant_of-self-else-len-self c).After-and_all-self-inside
