-- What a definition's numbers stand for. Of a value nothing is kept, so that `false` stands for it.
use Rattle.std.specs.Prelude.{◌≡◌, ◌⊎◌, Bool, true, false, List, [], ◌∷◌, map, Some}
use Rattle.std.specs.Ordering.{nat_cmp, is_lt}
use Rattle.std.specs.Cmp.Lexicographic.{slice_cmp}
use Rattle.toml.specs.Data.{boolean}
use Rattle.toml.specs.Tables.{Definition, key_value, std_table, array_table}
use Rattle.sja_plan_reading.specs.Words.{Text}
use Rattle.sja_plan_reading.specs.Inside.Items.{Item, first_of, at_first}
use Rattle.sja_plan_reading.specs.Inside.Judging.{IsGood, split}
use Rattle.sja_plan_reading.specs.Inside.Names.{text_at, texts_from}
use Rattle.sja_plan_reading.specs.declared.tables.state.State.TheVariants.{Absent}
use Rattle.sja_plan_reading.specs.declared.tables.definition.Definition as code
use Rattle.sja_plan_reading.specs.declared.tables.path.Path.{Path}
use Rattle.sja_plan_reading.specs.declared.tables.what.What.{What}
use Rattle.sja_plan_reading.specs.declared.tables.what.What.TheVariants as whats

-- what stands with the last part
abbrev pub definition_of : What → Definition
definition_of whats.Pair = key_value (boolean false)
definition_of whats.Table = std_table
definition_of whats.Array = array_table

abbrev pub path_of : List Text → Path → List Text
path_of ts p = texts_from p.first p.count ts

abbrev pub item_of : List Text → code.Definition → Item
item_of ts d = record {
  path = path_of ts d.path;
  dots = path_of ts d.dots;
  last = text_at ts d.last;
  what = definition_of d.what;
}

abbrev pub items_of : List Text → List code.Definition → List Item
items_of ts ds = map (item_of ts) ds

-- a definition without its value
abbrev pub bare_what : Definition → Definition
bare_what (key_value d) = key_value (boolean false)
bare_what what = what

abbrev pub bare : Item → Item
bare i = record { path = i.path; dots = i.dots; last = i.last; what = bare_what i.what }

-- whatever the values are, these go together
abbrev pub AreGood : List Item → Type 0
AreGood bs = (is : List Item) → map bare is ≡ bs → IsGood is

-- all these go together, each for itself
abbrev pub AllAreGood : List (List Item) → Type 0
AllAreGood [] = Unit {0}
AllAreGood (g ∷ gs) = AreGood g × AllAreGood gs

-- those of one key follow each other, and those below go together
abbrev pub Splits : List Item → Type 0
Splits bs = (gs : List (List Item)) × (split Absent [] bs ≡ Some gs) × AllAreGood gs

abbrev pub KeySplits : List Item → Text → Type 0
KeySplits bs k = Splits (at_first k bs)

-- whatever the values are, these don't go together
abbrev pub AreBad : List Item → Type 0
AreBad bs = (is : List Item) → map bare is ≡ bs → IsGood is → ⊥

-- some of these don't
abbrev pub HasBad : List (List Item) → Type 0
HasBad [] = ⊥
HasBad (g ∷ gs) = AreBad g ⊎ HasBad gs

-- those of one key don't follow each other, or some of those below don't go together
abbrev pub SplitsBad : List Item → Type 0
SplitsBad bs = (gs : List (List Item)) → split Absent [] bs ≡ Some gs → HasBad gs

-- the first keys of definitions pass this
abbrev pub FirstsAre : (Text → Bool) → List Item → Type 0
FirstsAre p [] = Unit {0}
FirstsAre p (i ∷ is) = (p (first_of i) ≡ true) × FirstsAre p is

-- by their first parts
abbrev pub is_before : List Text → code.Definition → code.Definition → Bool
is_before ts c d = is_lt (slice_cmp nat_cmp (first_of (item_of ts c)) (first_of (item_of ts d)))
