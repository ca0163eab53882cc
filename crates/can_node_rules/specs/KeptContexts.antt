-- What doesn't change within a piece.
use Rattle.std.specs.Prelude.{◌≡◌, Bool, true, false, List, [], ◌∷◌}
use Rattle.can_node_rules.specs.Context.{ContextValue, owes_suspension}
use Rattle.can_node_rules.specs.Pieces.{Place}
use Rattle.can_node_rules.specs.Pieces.Place.{AtInterframeSpace}

-- what doesn't change within a piece
pub record IsKept (place : Place) (c now : ContextValue) : Type 0 where
  pub listen : now.listen ≡ c.listen
  pub self_test : now.self_test ≡ c.self_test
  pub off : now.off ≡ c.off
  pub flag : now.flag ≡ c.flag
  pub owes : place ≡ AtInterframeSpace → owes_suspension now ≡ owes_suspension c

-- no bit came
abbrev pub is_nil : {A : Type 0} → List A → Bool
is_nil [] = true
is_nil (b ∷ bits) = false
