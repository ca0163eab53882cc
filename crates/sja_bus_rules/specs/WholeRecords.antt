-- Which buses keep their record whole (this project's own rule).
use Rattle.std.specs.Prelude.{◌<◌, ℕ, List}
use Rattle.sja_journal.specs.BoundedHistories.{KeepsAll}
use Rattle.sja_bus_rules.specs.Reasons.{room_for}

-- the journal of each of so many nodes is made for no more entries than a list that keeps them all, in a run of so many
-- bits in which each driver does so many steps
abbrev pub KeepsRecord : ℕ → List ℕ → ℕ → Type 0
KeepsRecord bits steps nodes = (node : ℕ) → node < nodes → KeepsAll (room_for bits steps node).all
