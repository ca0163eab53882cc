-- How far a journal has come at each of its entries (this project's own rule).
use Rattle.std.specs.Prelude.{ℕ, Bool, true, false, ◌+◌, List, [], ◌∷◌}
use Rattle.sja_journal.specs.declared.up.Up.TheVariants.{Start, Credit, Send, Stop}
use Rattle.sja_journal.specs.declared.entry.Entry.{Entry}
use Rattle.sja_journal.specs.declared.entry.Entry.TheVariants.{Bit, Up as Item, Abort, Stored, Overrun, Off}

-- the activations begun, the bits, and whether the last activation begun went bus-off
pub record JournalPlace : Type 0 where
  pub activation : ℕ
  pub bits : ℕ
  pub off : Bool

abbrev pub first_place : JournalPlace
first_place = record { activation = 0; bits = 0; off = false }

-- with an entry more, and with several
abbrev pub past : JournalPlace → Entry → JournalPlace
past p (Bit driven seen) = record p { bits = p.bits + 1 }
past p (Item (Start config)) = record p { activation = p.activation + 1; off = false }
past p (Item (Credit n)) = p
past p (Item (Send request)) = p
past p (Item Stop) = p
past p Abort = p
past p (Stored m) = p
past p (Overrun m) = p
past p Off = record p { off = true }

abbrev pub past_all : JournalPlace → List Entry → JournalPlace
past_all p [] = p
past_all p (e ∷ es) = past_all (past p e) es

-- where a journal ends
abbrev pub place_of : List Entry → JournalPlace
place_of j = past_all first_place j

-- an entry, and the place right before it
pub record Placed : Type 0 where
  pub before : JournalPlace
  pub entry : Entry

abbrev pub placed_from : JournalPlace → List Entry → List Placed
placed_from p [] = []
placed_from p (e ∷ es) = (record { before = p; entry = e }) ∷ placed_from (past p e) es

-- the entries of a journal with their places
abbrev pub placed : List Entry → List Placed
placed j = placed_from first_place j

-- the activation that an entry stands in; a start stands in the one that it begins
abbrev pub activation_of : Placed → ℕ
activation_of q = (past q.before q.entry).activation
