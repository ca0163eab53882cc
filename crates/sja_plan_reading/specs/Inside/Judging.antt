-- When the definitions of one key go together (by the rules of TOML): by what the key holds, and by what stands below.
use Rattle.std.specs.Prelude.{◌≡◌, Bool, true, false, if◌then◌else◌, List, [], ◌∷◌, ◌++◌, Option, Some, None}
use Rattle.std.specs.Prelude.{option_map, option_and_then}
use Rattle.toml.specs.Data.{Data, Items}
use Rattle.toml.specs.Tables.{Node, Nodes, no_nodes, open_table, open_array, value, implicit, dotted, header}
use Rattle.toml.specs.Tables.{Definition, key_value, std_table, array_table}
use Rattle.sja_plan_reading.specs.Words.{Text}
use Rattle.sja_plan_reading.specs.Inside.Items.{Item, run}
use Rattle.sja_plan_reading.specs.declared.tables.state.State.{State}
use Rattle.sja_plan_reading.specs.declared.tables.state.State.TheVariants.{Absent, Value, Implicit, Dotted, Header}
use Rattle.sja_plan_reading.specs.declared.tables.state.State.TheVariants.{Array}
use Rattle.sja_plan_reading.specs.declared.tables.what.What.{What}
use Rattle.sja_plan_reading.specs.declared.tables.what.What.TheVariants as whats

-- what a key holds behind a definition that ends at it
abbrev ended : State → What → Option State
ended Absent whats.Pair = Some Value
ended Absent whats.Table = Some Header
ended Implicit whats.Table = Some Header
ended Absent whats.Array = Some Array
ended Array whats.Array = Some Array
ended _ _ = None

-- what it holds behind one that passes through: dots pass through what no header defined, a header through any table
abbrev passed : State → What → Option State
passed Absent whats.Pair = Some Dotted
passed Implicit whats.Pair = Some Dotted
passed Dotted whats.Pair = Some Dotted
passed _ whats.Pair = None
passed Absent _ = Some Implicit
passed Value _ = None
passed s _ = Some s

abbrev pub behind : State → What → Bool → Option State
behind s what true = ended s what
behind s what false = passed s what

-- what stands with the last key of a definition
abbrev pub what_of : Definition → What
what_of (key_value d) = whats.Pair
what_of std_table = whats.Table
what_of array_table = whats.Array

-- whether a definition ends at its first key
abbrev ends_by : List Text → List Text → Bool
ends_by (k ∷ path) dots = false
ends_by [] (k ∷ dots) = false
ends_by [] [] = true

abbrev pub ends : Item → Bool
ends i = ends_by i.path i.dots

-- how it comes to its first key: by a header, by a pair, or with what stands there
abbrev comes_by : List Text → List Text → Definition → What
comes_by (k ∷ path) dots what = whats.Table
comes_by [] (k ∷ dots) what = whats.Pair
comes_by [] [] what = what_of what

abbrev pub comes : Item → What
comes i = comes_by i.path i.dots i.what

abbrev pub next : State → Item → Option State
next s i = behind s (comes i) (ends i)

-- the definition below the table of its first key
abbrev below_by : List Text → List Text → Text → Definition → Item
below_by (k ∷ path) dots last what = record { path = path; dots = dots; last = last; what = what }
below_by [] (k ∷ dots) last what = record { path = []; dots = dots; last = last; what = what }
below_by [] [] last what = record { path = []; dots = []; last = last; what = what }

abbrev pub below : Item → Item
below i = below_by i.path i.dots i.last i.what

-- those that go together, from no table on
abbrev pub IsGood : List Item → Type 0
IsGood is = (ns : Nodes) × (run is no_nodes ≡ Some ns)

-- a key holds this: what the state says, with what those below made
abbrev pub Holds : State → List Item → Option Node → Type 0
Holds Absent inner o = (inner ≡ []) × (o ≡ None)
Holds Value inner o = (inner ≡ []) × (d : Data) × (o ≡ Some (value d))
Holds Implicit inner o = (ns : Nodes) × (run inner no_nodes ≡ Some ns) × (o ≡ Some (open_table implicit ns))
Holds Dotted inner o = (ns : Nodes) × (run inner no_nodes ≡ Some ns) × (o ≡ Some (open_table dotted ns))
Holds Header inner o = (ns : Nodes) × (run inner no_nodes ≡ Some ns) × (o ≡ Some (open_table header ns))
Holds Array inner o =
    (done : Items) × (ns : Nodes) × (run inner no_nodes ≡ Some ns) × (o ≡ Some (open_array done ns))

-- those below a key behind a definition that ends at it: a header in double brackets begins a new table
abbrev pub fresh : What → List Item → List Item
fresh whats.Array inner = []
fresh _ inner = inner

abbrev pub is_double : What → Bool
is_double whats.Array = true
is_double _ = false

-- whether it is a header in double brackets
abbrev pub is_array : Item → Bool
is_array i = is_double (what_of i.what)

abbrev pub kept_below : Item → List Item → List Item
kept_below i inner = fresh (what_of i.what) inner

-- those below a key, list by list: each has to go together. None where the states don't follow each other
abbrev pub split : State → List Item → List Item → Option (List (List Item))
split s inner [] = Some (inner ∷ [])
split s inner (i ∷ is) = option_and_then (λ t.
    if ends i then (if is_array i then option_map (λ gs. inner ∷ gs) (split t (kept_below i inner) is)
    else split t (kept_below i inner) is)
    else split t (inner ++ below i ∷ []) is) (next s i)
