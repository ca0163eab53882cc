-- Searches through what is made of the elements of a list, from one of its places on.
use Rattle.std.proofs.Common.{◌≡◌, ◌<◌, ◌+◌, ℕ, Bool, true, false, Some, List}
use Rattle.std.proofs.Common.{length, map, drop, get_or, find, refl}
use Rattle.std.proofs.lemmas.List.{drop_more}

module _ {X Y : Type 0} (p : Y → Bool) (f : X → Y) (xs : List X) (i : ℕ) where
  -- the element at the place passes
  pub find_here : (d : X) → i < length xs → p (f (get_or xs i d)) ≡ true →
      find p (map f (drop i xs)) ≡ Some (f (get_or xs i d))
  find_here d within h = rw (drop_more xs i d within, h) refl

  -- it fails
  pub find_behind : (d : X) → i < length xs → p (f (get_or xs i d)) ≡ false →
      find p (map f (drop i xs)) ≡ find p (map f (drop (i + 1) xs))
  find_behind d within h = rw (drop_more xs i d within, h) refl
