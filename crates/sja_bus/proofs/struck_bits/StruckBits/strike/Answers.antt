use Rattle.std.proofs.Common.{◌≡◌, List, [], ◌∷◌, ◌++◌, sym, ap, ◌∙◌, subst, append_assoc, rules}
use Rattle.sja_steps.specs.declared.strike.Strike.{Strike}
use Rattle.sja_bus.specs.Inside.StrikesByBit.{IsHeld, Laters}
use Rattle.sja_bus.proofs.WholeBus.Marking.{held_anew, held_more}
use Rattle.sja_bus.proofs.struck_bits.StruckBits.strike.Goals.{After-strike}
use Rattle.sja_bus.proofs.struck_bits.StruckBits.strike.Goals as goal

-- where memory was refused nothing changed
pub invariant_of-self : goal.invariant_of-self
invariant_of-self c =
    let b = c.self.inside in
    let P : List Strike → Type 0 = λ l. IsHeld (b.script ++ l) b.most b.table b.calm_from b.calm_to in
    subst P (sym (ap (λ (l : Laters). l.items) c.in_err-push.ensures.kept)) c.self.invariant

-- the strike stands behind those that came later
script_is : (c : After-strike) → c.self.inside.script ++ c.push.new.self.items
    ≡ (c.self.inside.script ++ c.self.inside.later.items) ++ c.args.strike ∷ []
script_is c =
    let b = c.self.inside in
    ap (λ (l : List Strike). b.script ++ l) c.in_ok-push.ensures.items
    ∙ sym (append_assoc b.script b.later.items (c.args.strike ∷ []))

pub invariant_of-self-then-strike-self : goal.invariant_of-self-then-strike-self
invariant_of-self-then-strike-self c =
    let b = c.self.inside in let at = (goal.at.invariant_of-self-then-strike-self c).After-strike in
    let P : List Strike → Type 0 = λ l. IsHeld l b.most c.strike.new.self 1 0 in
    subst P (sym (script_is at)) (held_anew (b.script ++ b.later.items) b.most b.table c.strike.new.self b.calm_from
    b.calm_to c.args.strike c.self.invariant c.strike.ensures)

pub invariant_of-self-else-strike-self : goal.invariant_of-self-else-strike-self
invariant_of-self-else-strike-self c =
    let b = c.self.inside in let at = (goal.at.invariant_of-self-else-strike-self c).After-strike in
    let P : List Strike → Type 0 = λ l. IsHeld l b.most c.strike.new.self b.calm_from b.calm_to in
    subst P (sym (script_is at)) (held_more (b.script ++ b.later.items) b.most b.table c.strike.new.self b.calm_from
    b.calm_to c.args.strike (search rules) c.self.invariant c.strike.ensures)
