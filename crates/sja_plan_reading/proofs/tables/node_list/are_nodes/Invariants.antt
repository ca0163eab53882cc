use Rattle.std.proofs.Common.{◌≡◌, ℕ, ◌-◌, ◌<◌, ◌==◌, true, drop, length}
use denote.Text.{Utf8}
use denote.Shadow.{shadow}
use Rattle.toml_parser.specs.Lexical.{first}
use Rattle.toml_parser.specs.Strings.{recursion_limit}
use Rattle.toml.specs.Data.{Items, no_items}
use Rattle.toml.specs.Parse.{val, items}
use Rattle.sja_plan_reading.proofs.tables.node_list.are_nodes.Given as goal

abbrev pub invariant-items : goal.invariant-items
invariant-items l =
    shadow (Utf8 l.rest) × ((first l.fn.text == 91) ≡ true)
    × ((m : ℕ) × (found : Items) × (length l.rest < m)
    × (items (val (recursion_limit - 1)) (length l.fn.text) no_items (drop 1 l.fn.text)
    ≡ items (val (recursion_limit - 1)) m found l.rest))

abbrev pub decreases-items : goal.decreases-items
decreases-items l = length l.rest
