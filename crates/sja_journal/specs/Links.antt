-- What the links of a node stand for (this project's own rule).
use Rattle.std.specs.Prelude.{◌≡◌, ◌<◌, ℕ, suc, List, ◌++◌, length, slice_index_or}
use Rattle.sja_journal.specs.declared.up.Up.TheVariants.{Start, Credit, Send, Stop}
use Rattle.sja_journal.specs.declared.entry.Entry.{Entry}
use Rattle.sja_journal.specs.declared.entry.Entry.TheVariants.{Bit, Up as Item, Abort, Stored, Overrun, Off}
use Rattle.lemmas.specs.Gathering.{total}
use Rattle.sja_journal.specs.Lists.{Lists}
use Rattle.sja_journal.specs.Accounts.{Account, account}

-- 1 for a stop that was taken
abbrev pub stops_in : Entry → ℕ
stops_in (Item Stop) = 1
stops_in (Item (Start config)) = 0
stops_in (Item (Credit n)) = 0
stops_in (Item (Send request)) = 0
stops_in (Bit driven seen) = 0
stops_in Abort = 0
stops_in (Stored m) = 0
stops_in (Overrun m) = 0
stops_in Off = 0

-- how many activations have ended: the stops that were taken. The link of the next one is read
abbrev pub stops_of : List Entry → ℕ
stops_of = total stops_in

-- a journal with more entries
abbrev pub Grows : List Entry → List Entry → Type 0
Grows j k = (rest : List Entry) × (k ≡ j ++ rest)

-- the links of a node stand for the parts of its journal, whatever its driver got and gave
abbrev pub Kept : {E : Type 0} → (E → ℕ → Lists → Type 0) → List Entry → E → (ℕ → Account) → Type 0
Kept stands j end h = (a : ℕ) → stands end (suc a) (account j (suc a) (h a))

-- there is an end for each of so many nodes, in order
pub record AreEnds {E : Type 0} (node_of : E → ℕ) (nodes : ℕ) (links : List E) : Type 0 where
  pub count : length links ≡ nodes
  pub own : (node : ℕ) (d : E) → node < nodes → node_of (slice_index_or links node d) ≡ node

-- each end has links for so many activations
abbrev pub HaveLinks : {E : Type 0} → (E → ℕ) → ℕ → List E → Type 0
HaveLinks {E} links_of starts links =
    (k : ℕ) (d : E) → k < length links → links_of (slice_index_or links k d) ≡ starts
