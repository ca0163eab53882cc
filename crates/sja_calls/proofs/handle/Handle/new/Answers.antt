use Rattle.std.proofs.Common.{◌≡◌, ◌≤◌, ℕ, Bool, true, false, refl, sym, subst, arith}
use Rattle.std.specs.Prelude.{◌==◌, ◌&&◌}
use Rattle.std.proofs.lemmas.Bool.{ne_eqb}
use Rattle.sja_calls.specs.Beginnings.{IsNewBy, IsNewOf, asks_endless}
use Rattle.sja_calls.proofs.handle.Handle.new.Goals as goal

-- some bits ask for a session with an end
not_asked : (version bits : ℕ) → 1 ≤ bits → asks_endless version bits ≡ false
not_asked version bits some = by (version == 3) (bits == 0) (ne_eqb bits 0 (λ none. omega (arith, none, some)))
  where
    by : (a b : Bool) → b ≡ false → (a && b) ≡ false
    by true b none = none
    by false b none = refl

pub returns-in-Ok-new-clause-new : goal.returns-in-Ok-new-clause-new
returns-in-Ok-new-clause-new c =
    let may = c.in-Ok-new.ensures.limits in let few = may.2.1 in
    let count : c.byte_of.result ≡ c.args.nodes = c.byte_of.ensures.below (omega (arith, few)) in
    let new = c.in-Ok-new.ensures in
    subst (λ (b : Bool). IsNewBy b c.in-Ok-new.session c.args.version c.args.bits c.args.nodes)
    (sym (not_asked c.args.version c.args.bits may.1.0))
    (subst (λ (n : ℕ). IsNewOf c.in-Ok-new.session c.args.version c.args.bits n) count
    (subst (λ (v : ℕ). IsNewOf c.in-Ok-new.session v c.args.bits c.byte_of.result) c.in-Ok.ensures.1
    (record { may = may; at = new.at; bus = new.bus; wrote = new.plan; room = new.room })))
