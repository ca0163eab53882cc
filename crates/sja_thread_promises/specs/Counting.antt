-- How many bits the steps of a driver in a thread of its own count (this project's own rule): as many as had run by
-- what its port was told when the driver last saw it.
use Rattle.std.specs.Prelude.{◌≡◌, ◌⊎◌, ℕ, false, List, [], ◌∷◌}
use Rattle.sja_steps.specs.declared.step.Step.TheVariants.{At}
use Rattle.sja_driver.specs.StepRuns.{StepRun}
use Rattle.sja_driver.specs.TypedActs.{TypedAct}
use Rattle.sja_thread_promises.specs.Ordering.{is_at_port}

-- acts of a driver that had found so many bits run: one at its port counts as many as it finds there, which the order
-- at the port says, and a window or a release as many as were found before
abbrev pub AreCounted : ℕ → List TypedAct → Type 0
AreCounted found [] = Unit {0}
AreCounted found (d ∷ acts) = (is_at_port d.step ≡ false → d.bits ≡ found) × AreCounted d.bits acts

-- so many it has found then
abbrev pub found_after : ℕ → List TypedAct → ℕ
found_after found [] = found
found_after found (d ∷ acts) = found_after d.bits acts

-- so does a step: it counts as many as its last act, or as were found before; and a wait for a bit, which is no act,
-- as many as it finds
abbrev pub IsCounted : ℕ → StepRun → Type 0
IsCounted found a =
    AreCounted found a.acts
    × ((a.bits ≡ found_after found a.acts) ⊎ ((least : ℕ) × (a.step ≡ At least) × (a.acts ≡ [])))
