-- When the acts of a driver were done (this project's own rule).
use Rattle.std.specs.Prelude.{◌≤◌, ℕ, List, [], ◌∷◌}
use Rattle.sja_driver.specs.TypedActs.{TypedAct}

-- no act was done after more bits than these
abbrev pub AreDone : ℕ → List TypedAct → Type 0
AreDone bits [] = Unit {0}
AreDone bits (d ∷ acts) = (d.bits ≤ bits) × AreDone bits acts
