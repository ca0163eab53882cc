-- The part of a journal that one activation is (this project's own rule).
use Rattle.std.specs.Prelude.{ℕ, ◌==◌, if◌then◌else◌, List, [], ◌∷◌}
use Rattle.sja_journal.specs.declared.entry.Entry.{Entry}
use Rattle.lemmas.specs.Gathering.{gathered}
use Rattle.sja_journal.specs.Places.{Placed, placed, activation_of}

-- what the entries of one activation give, in order
abbrev pub in_part : {B : Type 0} → (Placed → List B) → ℕ → Placed → List B
in_part f a q = if activation_of q == a then f q else []

abbrev pub of_part : {B : Type 0} → (Placed → List B) → List Entry → ℕ → List B
of_part f j a = gathered (in_part f a) (placed j)

abbrev pub entry_at : Placed → List Entry
entry_at q = q.entry ∷ []

-- the part of an activation: from its start to the next one, or to the end of the journal
abbrev pub part : List Entry → ℕ → List Entry
part = of_part entry_at
