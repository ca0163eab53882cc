-- A look at what came over a driver's link, which is no step of it (this project's own rule).
use Rattle.std.specs.Prelude.{◌≡◌, ℕ, []}
use Rattle.sja_journal.specs.Lists.{Lists}
use Rattle.sja_driver.specs.declared.any_driver.AnyDriver.{AnyDriver}
use Rattle.sja_driver.specs.declared.any_driver.AnyDriver.TheVariants.{InReset, InActive}
use Rattle.sja_driver.specs.declared.logged_driver.LoggedDriver.{LoggedDriver}
use Rattle.sja_driver.specs.Calls.{TakesIn}
use Rattle.sja_driver.specs.Holding.{Goes}
use Rattle.sja_driver.specs.LoggedDrivers.{node_of, driver_of, log_of, IsLawful}

-- a look may be made: the end is that of the node's links. It needs no room in the log
pub record MayObserve {E : Type 0} (node_at : E → ℕ) (was : LoggedDriver) (end : E) : Type 0 where
  pub lawful : IsLawful was
  pub own : node_at end ≡ node_of was

-- out of reset all that the end showed was taken in, and nothing was given; in reset nothing changed
abbrev pub Observes : {E : Type 0} → (E → ℕ → Lists → Type 0) → (E → ℕ → Type 0) → E → E → AnyDriver → AnyDriver →
    Type 0
Observes stands dry old new (InReset was) now = (now ≡ InReset was) × (new ≡ old)
Observes stands dry old new (InActive was) (InReset now) = ⊥
Observes stands dry old new (InActive was) (InActive now) = TakesIn stands dry old new was now

-- a driver looked at the link of its present activation. No step was done by that: its log stays, and log and links go
-- on with all acts before it, and with no more
pub record Looked {E : Type 0} (stands : E → ℕ → Lists → Type 0) (dry : E → ℕ → Type 0) (was now : LoggedDriver)
    (old new : E) : Type 0 where
  pub observes : Observes stands dry old new (driver_of was) (driver_of now)
  pub log : log_of now ≡ log_of was
  pub goes : (version : ℕ) →
      Goes stands version (driver_of was) (driver_of now) (log_of was) (log_of now) old new []
