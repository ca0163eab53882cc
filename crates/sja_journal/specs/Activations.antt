-- At most how many activations a journal has (this project's own rule).
use Rattle.std.specs.Prelude.{◌≡◌, ◌<◌, ◌≤◌, ℕ, List, ◌∷◌, ◌++◌}
use Rattle.sja_journal.specs.declared.up.Up.{Up}
use Rattle.sja_journal.specs.declared.entry.Entry.{Entry}
use Rattle.sja_journal.specs.declared.entry.Entry.TheVariants.{Up as Item}
use Rattle.sja_journal.specs.BitEntries.{IsRead}
use Rattle.sja_journal.specs.Links.{stops_of}
use Rattle.sja_journal.specs.Opening.{begun_in}

-- no more than so many have begun, and where an item was taken on the link that is read, fewer had ended
pub record HasActivations (most : ℕ) (j : List Entry) : Type 0 where
  pub begun : begun_in j ≤ most
  pub read : (front rest : List Entry) (u : Up) → j ≡ front ++ Item u ∷ rest → IsRead front u → stops_of front < most
