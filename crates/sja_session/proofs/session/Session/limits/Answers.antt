use Rattle.std.proofs.Common.{◌≡◌, ℕ, List, ◌++◌, sym, ap, ◌∙◌, subst, append-nil}
use Rattle.sja_plan.specs.Plan.{IsInLimits}
use Rattle.sja_steps.specs.declared.strike.Strike.{Strike}
use Rattle.sja_session.specs.Sessions.{SessionValue, HasEnd}
use Rattle.sja_session.proofs.StruckOnce.{none_beside, own_bits}
use Rattle.sja_session.proofs.session.Session.limits.Goals as goal

-- with an end its bits and strikes are those of the plan that it goes by
pub returns : goal.returns
returns c = λ ends.
    let b = c.self.inside in let goes = c.self.invariant.1 in
    let end = subst (λ (x : SessionValue). HasEnd x) (sym c.self.view_is) ends in
    let bits : b.bits ≡ b.plan.bits = own_bits b.plan b.bits b.struck end goes in
    let strikes : b.plan.strikes ++ b.struck.items ≡ b.plan.strikes =
    ap (λ (l : List Strike). b.plan.strikes ++ l) (none_beside b.plan b.bits b.struck end goes)
    ∙ append-nil b.plan.strikes in
    let B : ℕ → Type 0 = λ n. IsInLimits (record b.plan { bits = n }) in
    let S : List Strike → Type 0 = λ l. IsInLimits (record b.plan { bits = b.bits; strikes = l }) in
    subst (λ (x : SessionValue). IsInLimits x.plan) c.self.view_is
    (subst S (sym strikes) (subst B (sym bits) c.limits.ensures))
