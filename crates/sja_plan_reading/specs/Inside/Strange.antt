-- Documents with a definition that no plan has.
use Rattle.std.specs.Prelude.{◌≡◌, ℕ, ◌⊎◌, Bool, true, false, not, List, [], ◌∷◌, Some, None, codes}
use Rattle.std.specs.List.{list_any}
use Rattle.std.specs.Str.{bytes_eq}
use Rattle.toml.specs.Data.{Members}
use Rattle.toml.specs.Parse.{parse_document}
use Rattle.sja_plan_reading.specs.Words.{Text}
use Rattle.sja_plan_reading.specs.Document.{IsMisshapen}
use Rattle.sja_plan_reading.specs.Inside.Items.{Item, first_of}
use Rattle.sja_plan_reading.specs.Inside.Judging.{comes, ends, below}
use Rattle.sja_plan_reading.specs.declared.tables.look.Look.{Look}
use Rattle.sja_plan_reading.specs.declared.tables.look.Look.TheVariants.{Strange, NoToml, Open}
use Rattle.sja_plan_reading.specs.declared.tables.what.What.{What}
use Rattle.sja_plan_reading.specs.declared.tables.what.What.TheVariants.{Pair, Table, Array}

-- the keys of plans of all versions
abbrev pub all_keys : List Text
all_keys =
    codes "version" ∷ codes "bits" ∷ codes "node" ∷ codes "turns" ∷ codes "faults" ∷ codes "strikes" ∷ []

-- the text is a document that isn't shaped as a plan is
abbrev pub IsStrange : List ℕ → Type 0
IsStrange text = (ms : Members) × (parse_document text ≡ Some ms) × IsMisshapen ms

-- the key is that of the nodes
abbrev pub is_nodes : Text → Bool
is_nodes k = list_any (λ known. bytes_eq known k) (codes "node" ∷ [])

-- no plan has this at a key of a plan: `node` holds an array of tables or a value, and the others hold values. What
-- comes by a pair that goes on with dots, or by a header, is a table; a header in double brackets makes an array.
abbrev pub is_odd : Bool → What → Bool → Bool
is_odd node Pair ended = not ended
is_odd node Table true = true
is_odd node Table false = not node
is_odd node Array ended = not node

-- the key is that of a node's steps
abbrev pub is_steps : Text → Bool
is_steps k = list_any (λ known. bytes_eq known k) (codes "steps" ∷ [])

-- what no node's table has: another key than `steps`, or there what is no value
abbrev pub IsStrangeIn : Item → Type 0
IsStrangeIn i = (is_steps (first_of i) ≡ false) ⊎ (is_odd false (comes i) (ends i) ≡ true)

-- a definition makes that of a node's table
abbrev pub IsStrangeBelow : Item → Type 0
IsStrangeBelow i = (is_nodes (first_of i) ≡ true) × (ends i ≡ false) × IsStrangeIn (below i)

-- a definition begins with a key that no plan has, or makes of its key, or of a node's table, what no plan has there
abbrev pub IsStrangeItem : Item → Type 0
IsStrangeItem i = (list_any (λ known. bytes_eq known (first_of i)) all_keys ≡ false)
    ⊎ ((is_odd (is_nodes (first_of i)) (comes i) (ends i) ≡ true) ⊎ IsStrangeBelow i)

-- some definition does
abbrev pub HasStrange : List Item → Type 0
HasStrange [] = ⊥
HasStrange (i ∷ is) = IsStrangeItem i ⊎ HasStrange is

-- what is seen of a text holds
abbrev pub IsSeen : List ℕ → Look → Type 0
IsSeen text Strange = IsStrange text
IsSeen text NoToml = parse_document text ≡ None
IsSeen text Open = Unit {0}
