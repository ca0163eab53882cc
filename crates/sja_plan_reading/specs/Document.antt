-- The TOML document of a plan: its keys, and the kinds of their values (this project's own rule).
use Rattle.std.specs.Prelude.{◌≡◌, ◌==◌, ◌&&◌, ℤ, pos, negsuc, Bool, true, if◌then◌else◌, List, [], ◌∷◌, codes}
use Rattle.std.specs.Prelude.{Option, Some, None, option_map, option_and_then}
use Rattle.std.specs.List.{list_any}
use Rattle.std.specs.Str.{bytes_eq}
use Rattle.sja_plan_reading.specs.Words.{Text}
use Rattle.toml.specs.Data.{Data, Items, no_items, item, Members, no_members, member}
use Rattle.toml.specs.Data.{as_str, as_integer, as_array, as_table, get_member}

-- the whole number at a key
abbrev pub integer_at : Text → Members → Option ℤ
integer_at key ms = option_and_then as_integer (get_member key ms)

-- what `f` makes of each item, where it makes something of each
abbrev pub all_of : {X : Type 0} → (Data → Option X) → Items → Option (List X)
all_of f no_items = Some []
all_of f (item d ds) = option_and_then (λ x. option_map (λ xs. x ∷ xs) (all_of f ds)) (f d)

-- the items as texts, where each is one
abbrev pub texts_of : Items → Option (List Text)
texts_of ds = all_of as_str ds

-- a list of texts
abbrev pub texts_in : Data → Option (List Text)
texts_in d = option_and_then texts_of (as_array d)

-- a list of texts that may be left out: that is the empty one
abbrev pub optional_texts : Option Data → Option (List Text)
optional_texts None = Some []
optional_texts (Some d) = texts_in d

-- the texts of the turns; where a plan of version 3 has none its drivers go by themselves, and before there are none
abbrev pub turns_left_out : ℤ → List Text
turns_left_out (pos version) = if version == 3 then codes "go" ∷ [] else []
turns_left_out (negsuc n) = []

abbrev pub turn_texts : ℤ → Option Data → Option (List Text)
turn_texts version None = Some (turns_left_out version)
turn_texts version (Some d) = texts_in d

-- every key is one of these
abbrev pub knows : List Text → Members → Bool
knows allowed no_members = true
knows allowed (member key d ms) = list_any (λ k. bytes_eq k key) allowed && knows allowed ms

-- the texts of a node's steps: its table has the key `steps` alone
abbrev pub steps_of : Members → Option (List Text)
steps_of ms = if knows (codes "steps" ∷ []) ms then option_and_then texts_in (get_member (codes "steps") ms) else None

abbrev pub node_of : Data → Option (List Text)
node_of d = option_and_then steps_of (as_table d)

abbrev pub nodes_of : Items → Option (List (List Text))
nodes_of ds = all_of node_of ds

-- a list of nodes' tables
abbrev pub nodes_in : Data → Option (List (List Text))
nodes_in d = option_and_then nodes_of (as_array d)

-- the keys that plans of version 3 have besides
abbrev pub newer_keys : ℤ → List Text
newer_keys (pos n) = if n == 3 then codes "strikes" ∷ [] else []
newer_keys (negsuc n) = []

-- all keys of a plan of this version; the turns may be left out, and the faults, which are also called strikes
abbrev pub plan_keys : ℤ → List Text
plan_keys version =
    codes "version" ∷ codes "bits" ∷ codes "node" ∷ codes "turns" ∷ codes "faults" ∷ newer_keys version

-- the texts of the strikes, from what stands at `faults` and at `strikes`, of which one at most is there
abbrev pub strike_texts : Option Data → Option Data → Option (List Text)
strike_texts faults None = optional_texts faults
strike_texts None (Some d) = texts_in d
strike_texts (Some c) (Some d) = None

-- what a document with a plan's keys says: of each node the texts of its steps
pub record DocumentValue : Type 0 where
  pub version : ℤ
  pub bits : ℤ
  pub nodes : List (List Text)
  pub turns : List Text
  pub faults : List Text

-- the document has a plan's keys, each with a value of its kind, and says this
pub record HasShape (ms : Members) (d : DocumentValue) : Type 0 where
  pub known : knows (plan_keys d.version) ms ≡ true
  pub version : integer_at (codes "version") ms ≡ Some d.version
  pub bits : integer_at (codes "bits") ms ≡ Some d.bits
  pub nodes : option_and_then nodes_in (get_member (codes "node") ms) ≡ Some d.nodes
  pub turns : turn_texts d.version (get_member (codes "turns") ms) ≡ Some d.turns
  pub faults : strike_texts (get_member (codes "faults") ms) (get_member (codes "strikes") ms) ≡ Some d.faults

-- some key is unknown, missing or has a value of the wrong kind
abbrev pub IsMisshapen : Members → Type 0
IsMisshapen ms = (d : DocumentValue) → ¬ HasShape ms d
