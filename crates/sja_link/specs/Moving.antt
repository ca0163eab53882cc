-- How the links of a node go along with its journal, as the bus takes and puts (this project's own rule).
use Rattle.std.specs.Prelude.{◌≡◌, ◌≢◌, ℕ, List}
use Rattle.sja_journal.specs.declared.entry.Entry.{Entry}
use Rattle.sja_journal.specs.Lists.{Lists, OthersStand}
use Rattle.sja_journal.specs.Parts.{part}
use Rattle.sja_journal.specs.Accounts.{Account, account}
use Rattle.sja_journal.specs.Links.{Grows, Kept}

-- as the journal grew the link of this activation kept to its part, no other part changed, and no other link
pub record Moves {E : Type 0} (stands : E → ℕ → Lists → Type 0) (old new : E) (j k : List Entry) (a : ℕ)
    : Type 0 where
  pub here : (h : Account) → stands old a (account j a h) → stands new a (account k a h)
  pub others : OthersStand stands a old new
  pub parts : (b : ℕ) → b ≢ a → part k b ≡ part j b
  pub grows : Grows j k

-- the links of a node moved with its journal, at the same end
pub record Goes {E : Type 0} (same : E → E → Type 0) (stands : E → ℕ → Lists → Type 0) (old new : E)
    (j k : List Entry) : Type 0 where
  pub is_same : same old new
  pub kept : (h : ℕ → Account) → Kept stands j old h → Kept stands k new h
  pub grows : Grows j k
