-- What the two ends of a link stand for (this project's own rule).
use Rattle.std.specs.Prelude.{◌≢◌, ℕ, List, [], ◌∷◌, ◌++◌}
use Rattle.sja_journal.specs.declared.down.Down.{Down}
use Rattle.sja_journal.specs.declared.down.Down.TheVariants.{Message, Off}
use Rattle.sja_journal.specs.declared.up.Up.{Up}

-- what the bus put and took, and what the driver got and gave, each oldest first
pub record Lists : Type 0 where
  pub put : List Down
  pub taken : List Up
  pub got : List Down
  pub given : List Up

-- a new link
abbrev pub nothing_yet : Lists
nothing_yet = record { put = []; taken = []; got = []; given = [] }

-- with one item more put, taken, got or given
abbrev pub with_put : Lists → Down → Lists
with_put l x = record l { put = l.put ++ x ∷ [] }

abbrev pub with_taken : Lists → Up → Lists
with_taken l x = record l { taken = l.taken ++ x ∷ [] }

abbrev pub with_got : Lists → Down → Lists
with_got l x = record l { got = l.got ++ x ∷ [] }

abbrev pub with_given : Lists → Up → Lists
with_given l x = record l { given = l.given ++ x ∷ [] }

-- the messages among what came down, in order
abbrev pub messages : List Down → List (List ℕ)
messages [] = []
messages (Message m ∷ xs) = m ∷ messages xs
messages (Off ∷ xs) = messages xs

-- ---- the links of a node

-- on the link of this activation an end stands for these lists, or is such a one
abbrev pub on : {E : Type 0} → (E → ℕ → Lists → Type 0) → ℕ → E → Lists → Type 0
on stands a e l = stands e a l

abbrev pub is_on : {E : Type 0} → (E → ℕ → Type 0) → ℕ → E → Type 0
is_on is a e = is e a

-- a call on the link of this activation changed its lists so
abbrev pub Carries : {E : Type 0} → (E → ℕ → Lists → Type 0) → ℕ → E → E → (Lists → Lists) → Type 0
Carries stands a old new f = (l : Lists) → stands old a l → stands new a (f l)

-- a call on the link of this activation changed nothing of its lists
abbrev pub Keeps : {E : Type 0} → (E → ℕ → Lists → Type 0) → ℕ → E → E → Type 0
Keeps stands a old new = (l : Lists) → stands old a l → stands new a l

-- a call on the link of this activation left the links of the others as they stood
abbrev pub OthersStand : {E : Type 0} → (E → ℕ → Lists → Type 0) → ℕ → E → E → Type 0
OthersStand stands a old new = (b : ℕ) → b ≢ a → (l : Lists) → stands old b l → stands new b l

-- the same end, on whose links but this one all stands as it did
abbrev pub same_on : {E : Type 0} → (E → E → Type 0) → (E → ℕ → Lists → Type 0) → ℕ → E → E → Type 0
same_on alike stands a old new = alike old new × OthersStand stands a old new
