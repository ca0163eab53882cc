use Rattle.std.proofs.Common.{◌≡◌, Bool, true, false, rules, refl}
use Rattle.std.specs.Prelude.{not}
use Rattle.sja_bus.proofs.bits.goes_on.Goals as goal

pub returns-then-to_rest-clause-no : goal.returns-then-to_rest-clause-no
returns-then-to_rest-clause-no c = λ no. (search rules, c.are_at_rest.ensures.rest (so c.are_at_rest.result no))
  where
    so : (b : Bool) → not b ≡ false → b ≡ true
    so true e = refl
    so false e = absurd cc
