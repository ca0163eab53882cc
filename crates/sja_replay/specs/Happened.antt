-- The bit events of a journal, bit by bit (this project's own rule).
use Rattle.std.specs.Prelude.{◌≡◌, ◌<◌, ◌≤◌, ◌+◌, ◌^◌, ◌++◌, Option, List, [], ◌∷◌}
use Rattle.can_levels.specs.declared.level.Level.{Level}
use Rattle.can_node_rules.specs.NextBit.{DrivesIn}
use Rattle.sja_journal.specs.NodeWords.{FinishedPiece, IsCut}
use Rattle.sja_journal.specs.declared.entry.Entry.{Entry}
use Rattle.sja_journal.specs.declared.entry.Entry.TheVariants.{Bit}
use Rattle.sja_journal.specs.Places.{place_of}
use Rattle.sja_journal.specs.Records.{record_of}
use Rattle.sja_replay.specs.declared.reception.Reception.{Reception}
use Rattle.sja_replay.specs.declared.bit_event.BitEvent.{BitEvent}
use Rattle.sja_replay.specs.Closing.{Closes}
use Rattle.sja_replay.specs.BitEvent.{Brings}
use Rattle.sja_replay.specs.Taking.{IsTaken, last_part}

-- why a bit can't be told: the journal is none that a bus writes, or it has 2^32 - 1 bits before it
pub data IsUntold (before : List Entry) (driven seen : Level) (rest : List Entry) : Type 0 where
  -- the node drives the other level there
  misdriven : {found : List FinishedPiece} (cut : IsCut (record_of before) found) → (DrivesIn cut driven → ⊥) →
      IsUntold before driven seen rest
  -- the entries behind the bit aren't those that it brings
  misfits : (h : BitEvent) → Brings before driven seen h →
      ((reception : Option Reception) (brought left : List Entry) →
      Closes (last_part (before ++ Bit driven seen ∷ [])) h.events rest reception brought left → ⊥) →
      IsUntold before driven seen rest
  -- the number has no place in 32 bits
  uncounted : 2 ^ 32 ≤ (place_of before).bits + 1 → IsUntold before driven seen rest

-- after this journal these entries are left, and these are their bit events, in order: those of all bits, where the
-- entries are those that a bus writes, and else of the bits before the first entry that can't come there
pub data Happened : List Entry → List Entry → List BitEvent → Type 0 where
  over : {before : List Entry} → Happened before [] []
  -- an entry between two bits
  between : {before left : List Entry} {e : Entry} {hs : List BitEvent} → IsTaken before e →
      Happened (before ++ e ∷ []) left hs → Happened before (e ∷ left) hs
  -- a bit, with the entries that it brought
  bit : {before rest brought left : List Entry} {driven seen : Level} {h : BitEvent} {hs : List BitEvent} →
      (place_of before).bits + 1 < 2 ^ 32 → Brings before driven seen h →
      Closes (last_part (before ++ Bit driven seen ∷ [])) h.events rest h.reception brought left →
      Happened ((before ++ Bit driven seen ∷ []) ++ brought) left hs →
      Happened before (Bit driven seen ∷ rest) (h ∷ hs)
  -- an entry that can't come there
  refused : {before left : List Entry} {e : Entry} → (IsTaken before e → ⊥) →
      ((driven seen : Level) → e ≡ Bit driven seen → ⊥) → Happened before (e ∷ left) []
  untold : {before rest : List Entry} {driven seen : Level} → IsUntold before driven seen rest →
      Happened before (Bit driven seen ∷ rest) []
