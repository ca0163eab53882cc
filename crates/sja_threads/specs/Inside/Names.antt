-- The names of lists, by node.
use Rattle.std.specs.Prelude.{◌≡◌, ℕ, Some, List, slice_get}

-- the list has this name, which is that of the node
abbrev pub IsNamed : List ℕ → ℕ → ℕ → Type 0
IsNamed names node name = slice_get names node ≡ Some name

-- the version is that of the order, and the node's list of acts has its name there
abbrev pub IsOrderOf : ℕ → List ℕ → ℕ → ℕ → ℕ → Type 0
IsOrderOf order_version names version node name = (version ≡ order_version) × IsNamed names node name
