-- That all was taken which the links showed right before a bit (this project's own rule).
use Rattle.std.specs.Prelude.{◌<◌, ℕ, suc, List, length, slice_index_or}
use Rattle.sja_link.specs.declared.bus_end.BusEnd.{Ghosts as Ends}
use Rattle.sja_journal.specs.declared.entry.Entry.{Entry}
use Rattle.sja_journal.specs.Lists.{Lists}
use Rattle.sja_journal.specs.Accounts.{Account, account}
use Rattle.lemmas.specs.Related.{EachRelated}
use Rattle.sja_journal.specs.Parts.{part}
use Rattle.sja_journal.specs.Carried.{taken_of}
use Rattle.sja_bus_rules.specs.Wire.{journal_at}
use Rattle.sja_journal.specs.Links.{Kept}
use Rattle.sja_bus_rules.specs.Buses.{AllDry}

-- the lists of the link of an activation where nothing was put on it since the first journal, and what was taken from
-- it is what the second one has
abbrev pub taken_by : List Entry → List Entry → ℕ → Account → Lists
taken_by before now a h = record (account before a h) { taken = taken_of (part now a) }

-- the links of a node stand for such lists, whatever its driver got and gave
abbrev pub HasTaken : {E : Type 0} → (E → ℕ → Lists → Type 0) → List Entry → List Entry → E → (ℕ → Account) → Type 0
HasTaken stands before now end h = (a : ℕ) → stands end (suc a) (taken_by before now (suc a) (h a))

-- right before the bit the links were these, still the same ones: of each node the one that is read showed nothing
-- upward, nothing was put on any since the journals before, and what had been taken is what the journals have now,
-- whatever the drivers got and gave
pub record TakesAll {E : Type 0} (e : Ends E) (before now : List (List Entry)) (links : List E) : Type 0 where
  pub between : List E
  pub sames : EachRelated e.same links between
  pub shown : AllDry e.dry now between
  pub taken : (node : ℕ) (d : E) (h : ℕ → Account) → node < length before →
      Kept e.stands (journal_at before node) (slice_index_or links node d) h →
      HasTaken e.stands (journal_at before node) (journal_at now node) (slice_index_or between node d) h
