-- Items that may not come after a journal (this project's own rule).
use Rattle.std.specs.Prelude.{◌≡◌, ◌⊎◌, ◌+◌, ◌<◌, ℕ, suc, true, false, List, ◌∷◌, ◌++◌}
use Rattle.can_node_rules.specs.declared.request.Request.{Request}
use Rattle.can_node_rules.specs.Context.{is_held}
use Rattle.can_node_rules.specs.NextBit.{now_in}
use Rattle.sja_journal.specs.NodeWords.{FinishedPiece, IsCut}
use Rattle.sja_journal.specs.declared.up.Up.{Up}
use Rattle.sja_journal.specs.declared.up.Up.TheVariants.{Start, Credit, Send, Stop}
use Rattle.sja_journal.specs.declared.entry.Entry.{Entry}
use Rattle.sja_journal.specs.declared.entry.Entry.TheVariants.{Up as Item, Off}
use Rattle.sja_journal.specs.Places.{place_of}
use Rattle.sja_journal.specs.Parts.{part}
use Rattle.sja_journal.specs.Records.{record_of}
use Rattle.sja_journal.specs.Free.{IsFree}
use Rattle.sja_journal.specs.Links.{stops_of}
use Rattle.sja_journal.specs.Opening.{IsOpen, IsBetween}

-- the activation whose link is read: the next one after those that have ended
abbrev pub read_in : List Entry → ℕ
read_in j = suc (stops_of j)

-- this credit can't be right: it is of no message, or would make more than 64 bytes free
pub record IsBadCredit (j : List Entry) (bytes : ℕ) : Type 0 where
  pub free : ℕ
  pub is_free : IsFree (part j (read_in j)) free
  pub bad : (bytes < 3) ⊎ (13 < bytes) ⊎ (64 < free + bytes)

-- bus-off stands among these entries
pub record HasOff (entries : List Entry) : Type 0 where
  pub before : List Entry
  pub after : List Entry
  pub whole : entries ≡ before ++ Off ∷ after

-- and a request after it
pub record HasAskedOff (entries : List Entry) : Type 0 where
  pub before : List Entry
  pub between : List Entry
  pub request : Request
  pub after : List Entry
  pub whole : entries ≡ before ++ Off ∷ (between ++ Item (Send request) ∷ after)

-- no request may come here: no activation is open, or the node holds a request by every cut of its record, or one was
-- dropped already since bus-off
pub data IsAskedWrongly (j : List Entry) : Type 0 where
  outside : IsBetween j → IsAskedWrongly j
  while_held : IsOpen j → (place_of j).off ≡ false →
      ((found : List FinishedPiece) (cut : IsCut (record_of j) found) → is_held (now_in cut).held ≡ true) →
      IsAskedWrongly j
  again_off : IsOpen j → (place_of j).off ≡ true → HasAskedOff (part j (read_in j)) → IsAskedWrongly j

-- the item may not come here. A credit may where it isn't bad
abbrev pub IsOutOfOrder : List Entry → Up → Type 0
IsOutOfOrder j (Start config) = IsOpen j
IsOutOfOrder j (Send request) = IsAskedWrongly j
IsOutOfOrder j Stop = IsBetween j
IsOutOfOrder j (Credit bytes) = ⊥

-- the item may come here: it isn't out of order, and is no bad credit
pub record MayCome (j : List Entry) (item : Up) : Type 0 where
  pub in_order : IsOutOfOrder j item → ⊥
  pub good : (bytes : ℕ) → item ≡ Credit bytes → IsBadCredit j bytes → ⊥
