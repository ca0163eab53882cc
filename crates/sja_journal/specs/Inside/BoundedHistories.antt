-- How a list is kept of which the oldest items may be forgotten.
use Rattle.std.specs.Prelude.{◌≡◌, ◌<◌, ◌≤◌, ◌+◌, ℕ}
use Rattle.sja_journal.specs.BoundedHistories.{KeepsAll}

-- so many items are kept and so many forgotten; `window` are kept at once at most, in a memory for `memory`; `end` is
-- what the list was made for less those forgotten
pub record AreBounded (kept dropped window memory end room : ℕ) : Type 0 where
  pub fits : kept ≤ window
  pub reserved : window ≤ memory
  pub within : window ≤ end
  pub counted : end + dropped ≡ room
  -- where any more may come, there is memory for one
  pub spare : 0 < end → 0 < window
  -- the last item is kept
  pub last : kept ≡ 0 → dropped ≡ 0
  -- a list that forgets none has all its memory
  pub none : KeepsAll room → dropped ≡ 0
  pub whole : KeepsAll room → window ≡ room
