-- What a contract sees of a journal, and what is reserved for it (this project's own rule).
use Rattle.std.specs.Prelude.{◌≤◌, ◌+◌, ◌*◌, ◌/◌, ℕ, List, [], ◌∷◌, ◌++◌, length}
use Rattle.sja_journal.specs.declared.entry.Entry.{Entry}
use Rattle.sja_journal.specs.Between.{between_bits}

-- how many entries are reserved, and how many of them at most may be no bits
pub record Room : Type 0 where
  pub all : ℕ
  pub others : ℕ

-- its entries, oldest first, and for how many it has room
pub record Written : Type 0 where
  pub entries : List Entry
  pub room : Room

-- there is room for these entries
pub record Fits (room : Room) (j : List Entry) : Type 0 where
  pub all : length j ≤ room.all
  pub others : length (between_bits j) ≤ room.others

-- after these entries there is no room for this one
pub record IsFullFor (room : Room) (j : List Entry) (e : Entry) : Type 0 where
  pub none : Fits room (j ++ e ∷ []) → ⊥

-- how many entries that are no bits are reserved for a run of so many bits, in which the driver does so many steps: one
-- for each 42 bits, as many as a frame has that is received, two for each step, and 100 more
abbrev pub others_for : ℕ → ℕ → ℕ
others_for bits steps = bits / 42 + 2 * steps + 100

-- the room of a journal for such a run: for one entry a bit, and for those that are no bits
abbrev pub room_in : ℕ → ℕ → Room
room_in bits steps = record { all = bits + others_for bits steps; others = others_for bits steps }
