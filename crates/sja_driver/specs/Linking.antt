-- The links of a node of a run in one thread, between two steps (this project's own rule).
use Rattle.std.specs.Prelude.{◌≡◌, ◌+◌, ℕ, suc, List, []}
use Rattle.sja_journal.specs.declared.entry.Entry.{Entry}
use Rattle.sja_link.specs.Deques.{Deques, Lies, up_on}
use Rattle.sja_link.specs.Looking.{one_if}
use Rattle.sja_journal.specs.Places.{place_of}
use Rattle.sja_journal.specs.Links.{stops_of}
use Rattle.sja_driver.specs.declared.logged_driver.LoggedDriver.{LoggedDriver}
use Rattle.sja_driver.specs.TypedActs.{TypedAct, opened_by, is_active}
use Rattle.sja_driver.specs.Holding.{HoldsBy}
use Rattle.sja_driver.specs.LoggedDrivers.{driver_of, log_of}
use Rattle.sja_driver.specs.Aborting.{sends_given, sends_taken}

-- the journal has begun as many activations as the driver, and ended as many; and as many requests were taken as given
pub record IsLevel (j : List Entry) (acts : List TypedAct) : Type 0 where
  pub begun : (place_of j).activation ≡ opened_by acts
  pub ended : stops_of j + one_if (is_active acts) ≡ opened_by acts
  pub asked : sends_taken j ≡ sends_given acts

-- the links stand for the parts of the journal and for the driver's acts and releases; all that was given was taken
pub record IsLinked (j : List Entry) (acts : List TypedAct) (driver : LoggedDriver) (links : Deques) : Type 0 where
  pub holds : HoldsBy Lies acts (driver_of driver) (log_of driver) j links
  pub taken : (a : ℕ) → up_on links (suc a) ≡ []
  pub level : IsLevel j acts
