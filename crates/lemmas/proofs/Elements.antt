-- Lists that agree at each place under functions.
use Rattle.std.proofs.Common.{◌≡◌, ◌<◌, ℕ, suc, List, [], ◌∷◌, length, map, get_or, refl, ap₂, arith}

-- two lists that agree at each place under f and g
pub map_alike : {A B C : Type 0} (f : A → C) (g : B → C) (xs : List A) (ys : List B) → length xs ≡ length ys →
    ((k : ℕ) (x : A) (y : B) → k < length xs → f (get_or xs k x) ≡ g (get_or ys k y)) → map f xs ≡ map g ys
map_alike f g [] [] count alike = refl
map_alike f g [] (y ∷ ys) count alike = absurd (omega (arith, count))
map_alike f g (x ∷ xs) [] count alike = absurd (omega (arith, count))
map_alike f g (x ∷ xs) (y ∷ ys) count alike =
    ap₂ (λ l r. l ∷ r) (alike 0 x y (omega arith))
    (map_alike f g xs ys (omega (arith, count)) (λ k a b less. alike (suc k) a b (omega (arith, less))))
