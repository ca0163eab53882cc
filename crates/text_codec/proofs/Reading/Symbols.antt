-- Texts of the digits 0 and 1.
use Rattle.std.proofs.Common.{◌≡◌, ◌<◌, ℕ, zero, suc, List, [], ◌∷◌, length, map, get_or, refl, ap, ◌∙◌, arith}
use Rattle.can_levels.specs.declared.level.Level.{Level}
use Rattle.text_codec.specs.LineText.{symbol}

-- each character of such a text is the digit of a level
symbol_at : (l : List Level) (i : ℕ) → i < length (map symbol l) →
    (level : Level) × (get_or (map symbol l) i 0 ≡ symbol level)
symbol_at [] i h = absurd (omega arith)
symbol_at (x ∷ l) zero h = (x, refl)
symbol_at (x ∷ l) (suc i) h = symbol_at l i (omega arith)

-- a text with another character is none
pub no_levels : (digits : List ℕ) (i : ℕ) → i < length digits →
    ((level : Level) → ¬ (get_or digits i 0 ≡ symbol level)) → (l : List Level) → ¬ (digits ≡ map symbol l)
no_levels digits i within none l is =
    let same : length digits ≡ length (map symbol l) = ap length is in
    let at = symbol_at l i (omega arith) in
    none at.0 (ap (λ (d : List ℕ). get_or d i 0) is ∙ at.1)
