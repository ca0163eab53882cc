-- How what is read of a document's text stands to its grammar.
use Rattle.std.specs.Prelude.{◌≡◌, true, List, ℕ, map, Option, Some, None, option_map, Result, MatchResult, IfOk, IfErr}
use Rattle.std.specs.Borrow.{Bor}
use Rattle.toml_parser.specs.Lexical.{Read}
use Rattle.toml_parser.specs.Reading.{key_view}
use Rattle.toml_parser.specs.Strings.{Key}
use Rattle.toml.specs.Parse.{parse_document}
use Rattle.toml.specs.Tables.{no_nodes, close}
use Rattle.toml_parser.specs.declared.key.Key as code
use Rattle.sja_plan_reading.specs.Inside.Items.{Item, run}
use Rattle.sja_plan_reading.specs.Inside.Definitions.{bare}
use Rattle.sja_plan_reading.specs.Inside.Rooms.{items_in}
use Rattle.sja_plan_reading.specs.Inside.Values.{HasOddPair}
use Rattle.sja_plan_reading.specs.declared.tables.room.Room.{Room}
use Rattle.sja_plan_reading.specs.declared.tables.refusal.Refusal.{Refusal}
use Rattle.sja_plan_reading.specs.declared.tables.refusal.Refusal.TheVariants.{NoMemory, NoToml}

-- the result is what the grammar gives, seen through f, unless memory was refused
abbrev pub Takes : {A B : Type 0} → (A → B) → Result A Refusal → Option B → Type 0
Takes f r expected = MatchResult r (λ a. expected ≡ Some (f a)) (λ e. (e ≡ NoMemory → ⊥) → expected ≡ None)

-- the same of a key and the text behind it
abbrev pub TakesKey : Result (code.Key × Bor (List ℕ)) Refusal → Read Key → Type 0
TakesKey r expected = Takes (λ p. (key_view p.0, p.1.now)) r expected

-- what the grammar reads was passed over
abbrev pub Passes : {A : Type 0} → Result (Bor (List ℕ)) Refusal → Read A → Type 0
Passes {A} r expected = IfOk r (λ rest. (a : A) × (expected ≡ Some (a, rest.now)))

-- this holds where the result says that the text isn't TOML
abbrev pub Refuses : {A : Type 0} → Result A Refusal → Type 0 → Type 0
Refuses r P = IfErr r (λ e. e ≡ NoToml → P)

-- the document's definitions are these, but for their values, of which some may be seen to be none that a plan has
abbrev pub IsRead : List ℕ → Room → Type 0
IsRead text room = (is : List Item) × (map bare is ≡ items_in room) × (parse_document text ≡ option_map close
    (run is no_nodes)) × (room.odd ≡ true → HasOddPair is)
