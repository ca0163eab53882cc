-- Small facts of truth values and of lists of one item.
use Rattle.std.proofs.Common.{◌≡◌, Bool, true, false, [], ◌∷◌}
pub use Rattle.std.proofs.lemmas.Bool.{false_from_ne_true as not_true, true_from_ne_false as not_false}
use Rattle.sja_journal.specs.declared.up.Up.{Up}

pub neither : (b : Bool) → b ≡ true → b ≡ false → ⊥
neither true e f = cc
neither false e f = cc

pub no_item : (u : Up) → u ∷ [] ≡ [] → ⊥
no_item u e = cc

pub one_item : (u v : Up) → u ∷ [] ≡ v ∷ [] → u ≡ v
one_item u v e = cc
