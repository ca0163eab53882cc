-- Values that no plan has where they stand.
use Rattle.std.specs.Prelude.{◌≡◌, ℕ, ◌⊎◌, true, false, List, [], ◌∷◌, Some, None}
use Rattle.toml.specs.Data.{Data, as_integer}
use Rattle.toml.specs.Tables.{key_value}
use Rattle.toml.specs.Parse.{val}
use Rattle.toml_parser.specs.Strings.{recursion_limit}
use Rattle.sja_plan_reading.specs.Document.{texts_in, nodes_in}
use Rattle.sja_plan_reading.specs.Inside.Items.{Item, first_of}
use Rattle.sja_plan_reading.specs.Inside.Judging.{ends, below}
use Rattle.sja_plan_reading.specs.Inside.Strange.{is_nodes}

-- no list of texts, and no number
abbrev pub IsOddValue : Data → Type 0
IsOddValue d = (texts_in d ≡ None) × (as_integer d ≡ None)

-- what a definition stands at holds such values alone: another key of a plan than that of its nodes, or one of a node
abbrev pub HoldsTexts : Item → Type 0
HoldsTexts i = ((ends i ≡ true) × (is_nodes (first_of i) ≡ false))
    ⊎ ((ends i ≡ false) × (is_nodes (first_of i) ≡ true) × (ends (below i) ≡ true))

-- what a definition stands at is the list of the nodes
abbrev pub HoldsNodes : Item → Type 0
HoldsNodes i = (ends i ≡ true) × (is_nodes (first_of i) ≡ true)

-- no plan has this value there
abbrev pub IsOddAt : Item → Data → Type 0
IsOddAt i d = (HoldsTexts i × IsOddValue d) ⊎ (HoldsNodes i × (nodes_in d ≡ None))

-- a text begins with a value of which this holds, where it begins with one
abbrev pub Begins : (Data → Type 0) → List ℕ → Type 0
Begins P text = (d : Data) (rest : List ℕ) → val recursion_limit text ≡ Some (d, rest) → P d

-- a pair with a value that no plan has there
abbrev pub IsOddPair : Item → Type 0
IsOddPair i = (d : Data) × (i.what ≡ key_value d) × IsOddAt i d

-- some definition is one
abbrev pub HasOddPair : List Item → Type 0
HasOddPair [] = ⊥
HasOddPair (i ∷ is) = IsOddPair i ⊎ HasOddPair is
