-- The drivers of a run before its first turn (this project's own rule).
use Rattle.std.specs.Prelude.{◌≡◌, ◌<◌, ℕ, false, List, [], slice_index_or}
use Rattle.sja_driver.specs.declared.logged_driver.LoggedDriver.{LoggedDriver}
use Rattle.sja_driver.specs.AnyDrivers.{is_out}
use Rattle.sja_driver.specs.Kept.{at_power_on}
use Rattle.sja_driver.specs.LoggedDrivers.{node_of, driver_of, log_of, kept_of, IsLawful}
use Rattle.sja_driver.specs.Logs.{IsEmpty, IsMadeFor, Traces}

-- the driver of this node, in reset, that did nothing and was made for so many steps, for what so many acts come to,
-- and for as many activations as a node has in this version
pub record IsNewDriver (version node many acts : ℕ) (d : LoggedDriver) : Type 0 where
  pub own : node_of d ≡ node
  pub empty : IsEmpty (log_of d)
  pub made_for : IsMadeFor version many acts (log_of d)
  pub kept : kept_of d ≡ at_power_on
  pub reset : is_out (driver_of d) ≡ false
  pub lawful : IsLawful d
  pub traces : (any : ℕ) → Traces any (driver_of d) (log_of d) []

-- the first so many of them, by node, each made for the steps and for the acts of its node
abbrev pub AreNew : ℕ → List ℕ → List ℕ → ℕ → List LoggedDriver → Type 0
AreNew version steps acts count drivers =
    (node : ℕ) (d : LoggedDriver) → node < count →
    IsNewDriver version node (slice_index_or steps node 0) (slice_index_or acts node 0)
    (slice_index_or drivers node d)
