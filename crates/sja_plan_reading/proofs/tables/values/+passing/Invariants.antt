use Rattle.std.proofs.Common.{◌≡◌, ℕ, ◌+◌, ◌*◌, ◌<◌, ◌≤◌, List, [], map, length}
use denote.Text.{Utf8}
use denote.Shadow.{shadow}
use Rattle.toml.specs.Data.{Items}
use Rattle.toml.specs.Parse.{val, items}
use Rattle.sja_plan_reading.specs.Inside.Items.{Item}
use Rattle.sja_plan_reading.specs.Inside.Definitions.{bare}
use Rattle.sja_plan_reading.specs.Inside.Rooms.{IsSound, items_in, section_in}
use Rattle.sja_plan_reading.proofs.ReadMembers.{MembersFrom}
use Rattle.sja_plan_reading.proofs.tables.values.+passing.Given as goal

abbrev pub decreases-pass_array : goal.decreases-pass_array
decreases-pass_array l = 2 * l.depth + 2

abbrev pub decreases-pass_value : goal.decreases-pass_value
decreases-pass_value l = 2 * l.depth + 1

abbrev pub invariant-pass_array-items : goal.invariant-pass_array-items
invariant-pass_array-items l =
    shadow (Utf8 l.rest) × (length l.rest ≤ length l.fn.text)
    × ((n : ℕ) → length l.fn.text < n → (found : Items) → (m : ℕ) × (more : Items) × (length l.rest < m)
    × (items (val l.fn.depth) n found l.fn.text ≡ items (val l.fn.depth) m more l.rest))

abbrev pub decreases-pass_array-items : goal.decreases-pass_array-items
decreases-pass_array-items l = length l.rest

abbrev pub decreases-pass_table : goal.decreases-pass_table
decreases-pass_table l = 2 * l.depth + 2

abbrev pub invariant-pass_table-members : goal.invariant-pass_table-members
invariant-pass_table-members l =
    shadow (Utf8 l.rest) × (length l.rest ≤ length l.fn.text) × IsSound l.room × (section_in l.room ≡ [])
    × ((n : ℕ) → length l.fn.text < n → (m : ℕ) × (is : List Item) × (length l.rest < m) ×
    (map bare is ≡ items_in l.room)
    × MembersFrom (val l.fn.depth) l.fn.text n m is l.rest)

abbrev pub decreases-pass_table-members : goal.decreases-pass_table-members
decreases-pass_table-members l = length l.rest
