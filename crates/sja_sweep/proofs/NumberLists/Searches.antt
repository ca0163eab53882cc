-- The first number of several that passes a test.
use Rattle.std.proofs.Common.{◌≡◌, ℕ, ◌+◌, ◌-◌, ◌<◌, suc, Bool, true, false, cond, ◌∷◌}
use Rattle.std.proofs.Common.{Option, Some, sym, ap, ◌∙◌, arith}
use Rattle.std.specs.Prelude.{◌||◌, find}
use Rattle.std.specs.List.{list_any, range_with_len}

-- the first of the numbers that are left, and the others
pub range_first : (i n : ℕ) → i < n → range_with_len i (n - i) ≡ i ∷ range_with_len (i + 1) (n - (i + 1))
range_first i n less = let one : n - i ≡ suc (n - (i + 1)) = omega (arith, less) in ap (range_with_len i) one

-- it fails, and it passes
pub find_more : (p : ℕ → Bool) (i n : ℕ) (whole : Option ℕ) → i < n → p i ≡ false →
    find p (range_with_len i (n - i)) ≡ whole → find p (range_with_len (i + 1) (n - (i + 1))) ≡ whole
find_more p i n whole less fails so_far =
    sym (ap (find p) (range_first i n less)
    ∙ ap (λ b. cond b (Some i) (find p (range_with_len (i + 1) (n - (i + 1))))) fails) ∙ so_far

pub find_here : (p : ℕ → Bool) (i n : ℕ) (whole : Option ℕ) → i < n → p i ≡ true →
    find p (range_with_len i (n - i)) ≡ whole → Some i ≡ whole
find_here p i n whole less passes so_far =
    sym (ap (find p) (range_first i n less)
    ∙ ap (λ b. cond b (Some i) (find p (range_with_len (i + 1) (n - (i + 1))))) passes) ∙ so_far

pub any_more : (p : ℕ → Bool) (i n : ℕ) (whole : Bool) → i < n → p i ≡ false →
    list_any p (range_with_len i (n - i)) ≡ whole → list_any p (range_with_len (i + 1) (n - (i + 1))) ≡ whole
any_more p i n whole less fails so_far =
    sym (ap (list_any p) (range_first i n less)
    ∙ ap (λ b. b || list_any p (range_with_len (i + 1) (n - (i + 1)))) fails) ∙ so_far
