-- What lines define, one after another, and what they do to one key (by the rules of TOML).
use Rattle.std.specs.Prelude.{if◌then◌else◌, List, [], ◌∷◌, Option, Some, None, option_map, option_and_then}
use Rattle.toml.specs.Data.{same_key}
use Rattle.toml.specs.Tables.{Node, Nodes, no_nodes, open_table, implicit, dotted, Edit, Definition, along_header}
use Rattle.toml.specs.Tables.{along_dots, at_key, header_node, dot_node, new_node, redefine, insert, replace}
use Rattle.sja_plan_reading.specs.Words.{Text}

-- a definition: the keys that a header goes through, those that dots go through, the last key, and what stands there
pub record Item : Type 0 where
  pub path : List Text
  pub dots : List Text
  pub last : Text
  pub what : Definition

-- what it does to the tables
abbrev pub apply : Item → Edit
apply i = along_header i.path (along_dots i.dots (at_key i.last i.what))

-- what several do, one after another
abbrev pub run : List Item → Edit
run [] ns = Some ns
run (i ∷ is) ns = option_and_then (run is) (apply i ns)

-- the first of its keys
abbrev first_in : List Text → List Text → Text → Text
first_in (k ∷ path) dots last = k
first_in [] (k ∷ dots) last = k
first_in [] [] last = last

abbrev pub first_of : Item → Text
first_of i = first_in i.path i.dots i.last

-- what it makes of what its first key holds
abbrev step_by : List Text → List Text → Text → Definition → Option Node → Option Node
step_by (k ∷ path) dots last what None =
    option_map (open_table implicit) (along_header path (along_dots dots (at_key last what)) no_nodes)
step_by (k ∷ path) dots last what (Some x) = header_node (along_header path (along_dots dots (at_key last what))) x
step_by [] (k ∷ dots) last what None = option_map (open_table dotted) (along_dots dots (at_key last what) no_nodes)
step_by [] (k ∷ dots) last what (Some x) = dot_node (along_dots dots (at_key last what)) x
step_by [] [] last what None = Some (new_node what)
step_by [] [] last what (Some x) = redefine what x

abbrev pub step : Item → Option Node → Option Node
step i o = step_by i.path i.dots i.last i.what o

-- what those of one key make of what it holds, one after another
abbrev pub steps : List Item → Option Node → Option (Option Node)
steps [] o = Some o
steps (i ∷ is) o = option_and_then (λ x. steps is (Some x)) (step i o)

-- those of one key
abbrev pub at_first : Text → List Item → List Item
at_first k [] = []
at_first k (i ∷ is) = if same_key k (first_of i) then i ∷ at_first k is else at_first k is

-- the nodes with this at a key, where it held nothing or something
abbrev pub set_node : Text → Node → Nodes → Option Node → Nodes
set_node k x ns None = insert k x ns
set_node k x ns (Some y) = replace k x ns
