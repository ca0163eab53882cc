-- What was given and not yet taken.
use Rattle.std.specs.Prelude.{◌≡◌, ◌++◌, ℕ, List, map}
use Rattle.sja_journal.specs.declared.up.Up.{Up}
use Rattle.sja_journal.specs.declared.entry.Entry.{Entry}
use Rattle.sja_journal.specs.Places.{place_of}
use Rattle.sja_driver.specs.Timing.{Timed, timed, taken_when}

-- of one activation: what was given is what was taken and what waits, which was given after the last bit
abbrev pub WaitsInTime : List Timed → List Entry → ℕ → List Up → Type 0
WaitsInTime given j a up = given ≡ taken_when j a ++ map (timed (place_of j).bits) up
