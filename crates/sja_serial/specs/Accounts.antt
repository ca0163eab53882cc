-- The headline of a run in one thread at any moment (this project's own rule). Of each activation that the driver of a
-- node has begun: what it released, followed by what it left unread, is, in order and each once, the frames that its
-- controller validly received and its filter passed, less those marked overrun. Of an activation that goes on that is
-- what was released so far, followed by what lies unread still.
use Rattle.std.specs.Prelude.{◌≡◌, ◌+◌, ◌<◌, ℕ, List, length, slice_index_or}
use Rattle.sja_link.specs.Deques.{Deques, down_on}
use Rattle.sja_journal.specs.NodeWords.{FinishedPiece, IsCut}
use Rattle.sja_journal.specs.Places.{place_of}
use Rattle.sja_journal.specs.Records.{record_of}
use Rattle.sja_journal.specs.declared.entry.Entry.{Entry}
use Rattle.sja_bus_rules.specs.Wire.{journal_at}
use Rattle.sja_driver.specs.declared.logged_driver.LoggedDriver.{LoggedDriver}
use Rattle.sja_driver.specs.AnyDrivers.{opened_of}
use Rattle.sja_driver.specs.LoggedDrivers.{driver_of}
use Rattle.sja_promises.specs.Finishing.{activation_after}
use Rattle.sja_promises.specs.Headline.{Headline}
use Rattle.sja_serial.specs.Serial.{SerialValue}

-- of a node, by its journal, its driver, and what lies downward on its links: its record has a cut, the driver has
-- begun each activation that the journal has, and by every cut the headline holds of each of them
pub record IsAccountNow (j : List Entry) (driver : LoggedDriver) (links : Deques) : Type 0 where
  pub found : List FinishedPiece
  pub cut : IsCut (record_of j) found
  pub begun : (place_of j).activation ≡ opened_of (driver_of driver)
  pub headline : (others : List FinishedPiece) (a : ℕ) → IsCut (record_of j) others →
      a < opened_of (driver_of driver) → Headline others j (a + 1) (activation_after driver (down_on links (a + 1)) a)

-- of each node
abbrev pub AreAccountsNow : SerialValue → Type 0
AreAccountsNow r = (node : ℕ) (d : LoggedDriver) (l : Deques) → node < length r.drivers →
    IsAccountNow (journal_at r.bus.journals node) (slice_index_or r.drivers node d) (slice_index_or r.links node l)
