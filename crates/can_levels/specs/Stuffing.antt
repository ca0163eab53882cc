-- Bit stuffing (Bosch CAN 2.0 part A section 5, "Coding"; that a stuff bit also follows the last bit of the CRC
-- sequence where five equal levels end there is this project's own reading).
use Rattle.std.specs.Prelude.{◌≡◌, ◌≢◌, ℕ, List, [], ◌∷◌, ◌++◌, replicate}
use Rattle.can_levels.specs.declared.level.Level.{Level}

-- the list ends in n equal levels
abbrev pub EndsInEqual : ℕ → List Level → Type 0
EndsInEqual n s = (before : List Level) × (x : Level) × (s ≡ before ++ replicate n x)

-- no six successive levels of the list are equal
abbrev pub HasNoSixEqual : List Level → Type 0
HasNoSixEqual s = (before after : List Level) (x : Level) → s ≢ before ++ (replicate 6 x ++ after)

-- w is s without each level whose five predecessors are equal
pub data IsUnstuffed : List Level → List Level → Type 0 where
  nothing : IsUnstuffed [] []
  kept : {w s v t : List Level} (x : Level) → IsUnstuffed w s → ¬ EndsInEqual 5 s → v ≡ w ++ x ∷ [] → t ≡ s ++ x ∷ [] →
      IsUnstuffed v t
  dropped : {w s t : List Level} (x : Level) → IsUnstuffed w s → EndsInEqual 5 s → t ≡ s ++ x ∷ [] → IsUnstuffed w t

-- s is w with its stuff bits: after five equal levels one that differs, stuff bits counted too
pub record Stuffed (w s : List Level) : Type 0 where
  pub no_six : HasNoSixEqual s
  -- a stuff bit that is due after the last level is there too
  pub closed : ¬ EndsInEqual 5 s
  pub unstuffed : IsUnstuffed w s
