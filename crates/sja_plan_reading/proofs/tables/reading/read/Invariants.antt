use Rattle.std.proofs.Common.{◌≡◌, ℕ, ◌<◌, ◌≤◌, true, List, map, length}
use denote.Text.{Utf8}
use denote.Shadow.{shadow}
use Rattle.sja_plan_reading.specs.Inside.Items.{Item}
use Rattle.sja_plan_reading.specs.Inside.Definitions.{bare}
use Rattle.sja_plan_reading.specs.Inside.Rooms.{IsSound, items_in, section_in}
use Rattle.sja_plan_reading.specs.Inside.Values.{HasOddPair}
use Rattle.sja_plan_reading.proofs.ReadLines.{ReadsFrom}
use Rattle.sja_plan_reading.proofs.tables.reading.read.Given as goal

abbrev pub invariant-lines : goal.invariant-lines
invariant-lines l =
    shadow (Utf8 l.rest) × (length l.rest ≤ length l.fn.text) × IsSound l.room
    × (m : ℕ) × (is : List Item) × (length l.rest < m) × (map bare is ≡ items_in l.room)
    × ReadsFrom l.fn.text m is (section_in l.room) l.rest × (l.room.odd ≡ true → HasOddPair is)

abbrev pub decreases-lines : goal.decreases-lines
decreases-lines l = length l.rest
