-- A stuffed part as far as it has come.
use Rattle.std.specs.Prelude.{◌≡◌, ◌≢◌, ◌≤◌, ◌+◌, ℕ, List, [], ◌∷◌, ◌++◌, length}
use Rattle.can_levels.specs.declared.level.Level.{Level}
use Rattle.can_levels.specs.declared.level.Level.TheVariants.{Dominant}
use Rattle.can_levels.specs.Fields.{level_at, says_count}
use Rattle.can_levels.specs.Stuffing.{HasNoSixEqual, IsUnstuffed}

-- the list ends in just n levels like this one
pub data EndsInRun : Level → ℕ → List Level → Type 0 where
  nothing : (x : Level) → EndsInRun x 0 []
  longer : {x : Level} {n : ℕ} {l t : List Level} → EndsInRun x n l → t ≡ l ++ x ∷ [] → EndsInRun x (n + 1) t
  other : {x : Level} {n : ℕ} {l t : List Level} (y : Level) → EndsInRun x n l → y ≢ x → t ≡ l ++ y ∷ [] →
      EndsInRun y 1 t

-- w are the levels l without stuff bits. They begin a stuffed part or are a whole one
pub record IsPartSoFar (l w : List Level) (last : Level) (run : ℕ) : Type 0 where
  pub no_six : HasNoSixEqual l
  pub unstuffed : IsUnstuffed w l
  pub ends : EndsInRun last run l
  pub begins : level_at w 0 ≡ Dominant
  pub fits : length w ≤ says_count w

-- the same, and the part goes on
pub record BeginsPart (l w : List Level) (last : Level) (run : ℕ) : Type 0 where
  pub so_far : IsPartSoFar l w last run
  pub goes_on : length w ≡ says_count w → 5 ≤ run
