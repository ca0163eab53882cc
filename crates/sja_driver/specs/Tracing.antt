-- A driver of a run in one thread, beside what it did (this project's own rule).
use Rattle.std.specs.Prelude.{◌≡◌, ◌+◌, ◌≤◌, ℕ, List, length}
use Rattle.sja_journal.specs.Sizes.{most_activations}
use Rattle.sja_driver.specs.declared.logged_driver.LoggedDriver.{LoggedDriver}
use Rattle.sja_driver.specs.TypedActs.{TypedAct}
use Rattle.sja_driver.specs.LoggedDrivers.{driver_of, log_of, IsLawful}
use Rattle.sja_driver.specs.Logs.{HasRoom, Traces, release_room, left_room}

-- its log and state are those of these acts in this version, which are at most so many, and its log, made for as many
-- and for all activations of a node, has room for the rest of them
pub record IsTraced (version size : ℕ) (acts : List TypedAct) (driver : LoggedDriver) : Type 0 where
  pub lawful : IsLawful driver
  pub traces : Traces version (driver_of driver) (log_of driver) acts
  pub within : length acts ≤ size
  pub room : (k : ℕ) → length acts + k ≤ size → HasRoom version k (log_of driver)
  pub made_for : release_room (log_of driver) ≡ size
  pub activations : left_room (log_of driver) ≡ most_activations version
