-- Whether an activation of a node is open, and how many have begun (this project's own rule).
use Rattle.std.specs.Prelude.{◌≡◌, ◌≤◌, ℕ, suc, List}
use Rattle.sja_journal.specs.declared.entry.Entry.{Entry}
use Rattle.sja_journal.specs.Places.{place_of}
use Rattle.sja_journal.specs.Links.{stops_of}

-- one is: it has begun, and wasn't stopped
abbrev pub IsOpen : List Entry → Type 0
IsOpen j = (place_of j).activation ≡ suc (stops_of j)

-- none is: before the first start, and after each stop
abbrev pub IsBetween : List Entry → Type 0
IsBetween j = (place_of j).activation ≡ stops_of j

-- how many activations have begun
abbrev pub begun_in : List Entry → ℕ
begun_in j = (place_of j).activation

-- from one journal to the next none began beyond the activation of this number
abbrev pub BeginsWithin : ℕ → List Entry → List Entry → Type 0
BeginsWithin most j k = (n : ℕ) → most ≤ n → begun_in j ≤ n → begun_in k ≤ n
