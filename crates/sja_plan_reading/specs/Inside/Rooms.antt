-- What is kept of a document while it is read.
use Rattle.std.specs.Prelude.{◌≡◌, ◌⊎◌, ◌+◌, ◌<◌, ◌≤◌, ℕ, true, List, [], ◌∷◌, ◌++◌, length, Some}
use Rattle.std.specs.List.{All}
use Rattle.toml_parser.specs.Strings.{Key, recursion_limit}
use Rattle.toml.specs.Data.{Data}
use Rattle.toml.specs.Tables.{Definition, key_value, Expression}
use Rattle.toml.specs.Parse.{expression, line, keyval, val, header_key}
use Rattle.sja_plan_reading.specs.Words.{Text}
use Rattle.sja_plan_reading.specs.Inside.Items.{Item}
use Rattle.sja_plan_reading.specs.Inside.Names.{texts_of, IsWhole}
use Rattle.sja_plan_reading.specs.Inside.Definitions.{path_of, items_of, bare, definition_of}
use Rattle.sja_plan_reading.specs.Inside.Values.{IsOddPair}
use Rattle.sja_plan_reading.specs.declared.tables.definition.Definition as code
use Rattle.sja_plan_reading.specs.declared.tables.path.Path.{Path}
use Rattle.sja_plan_reading.specs.declared.tables.what.What.{What}
use Rattle.sja_plan_reading.specs.declared.tables.room.Room.{Room}

-- the definitions that were read
abbrev pub items_in : Room → List Item
items_in r = items_of (texts_of r.names) r.definitions.items

-- the key of the last header
abbrev pub section_in : Room → List Text
section_in r = path_of (texts_of r.names) r.section

-- a path's parts, and those of a definition, are among so many
abbrev pub IsInside : ℕ → Path → Type 0
IsInside n p = p.first + p.count ≤ n

abbrev pub IsKnown : ℕ → code.Definition → Type 0
IsKnown n d = IsInside n d.path × IsInside n d.dots × (d.last < n)

pub record IsSound (r : Room) : Type 0 where
  pub whole : IsWhole r.names
  pub section : IsInside (length (texts_of r.names)) r.section
  pub definitions : All (IsKnown (length (texts_of r.names))) r.definitions.items

-- what a pair and a header define
abbrev pub pair_item : List Text → Key → Data → Item
pair_item section k d = record { path = section; dots = k.0; last = k.1; what = key_value d }

abbrev pub header_item : Key → Definition → Item
header_item k what = record { path = k.0; dots = []; last = k.1; what = what }

abbrev item_as : List Text → Key → Definition → Item
item_as section k (key_value d) = pair_item section k d
item_as section k what = header_item k what

abbrev pub item_behind : List Text → Expression → Item
item_behind section e = item_as section e.0 e.1

-- the key of the last header behind an expression
abbrev section_as : List Text → Key → Definition → List Text
section_as section k (key_value d) = section
section_as section k what = k.0 ++ k.1 ∷ []

abbrev pub section_behind : List Text → Expression → List Text
section_behind section e = section_as section e.0 e.1

-- an expression was taken in
pub record TookIn (old new : Room) (e : Expression) : Type 0 where
  pub items : items_in new ≡ items_in old ++ bare (item_behind (section_in old) e) ∷ []
  pub section : section_in new ≡ section_behind (section_in old) e
  pub sound : IsSound new
  pub odd : new.odd ≡ true → (old.odd ≡ true) ⊎ IsOddPair (item_behind (section_in old) e)

-- and that is what the grammar reads at the front of a text
abbrev pub TakesPair : Room → Room → List ℕ → List ℕ → Type 0
TakesPair old new text rest = (k : Key) × (d : Data) × (keyval (val recursion_limit) text ≡ Some ((k, d), rest)) ×
    TookIn old new (k, key_value d)

pub record TakesHeader (old new : Room) (what : What) (text rest : List ℕ) : Type 0 where
  pub k : Key
  pub is : header_key text ≡ Some (k, rest)
  pub items : items_in new ≡ items_in old ++ header_item k (definition_of what) ∷ []
  pub section : section_in new ≡ k.0 ++ k.1 ∷ []
  pub sound : IsSound new
  pub odd : new.odd ≡ old.odd

abbrev pub TakesExpression : Room → Room → List ℕ → List ℕ → Type 0
TakesExpression old new text rest = (e : Expression) × (expression text ≡ Some (e, rest)) × TookIn old new e

abbrev pub TakesLine : Room → Room → List ℕ → List ℕ → Type 0
TakesLine old new text rest = (e : Expression) × (line text ≡ Some (e, rest)) × TookIn old new e
