-- A replay, and the journal that it has come through (this project's own rule).
use Rattle.std.specs.Prelude.{◌≡◌, ◌≤◌, ◌<◌, ◌+◌, ◌^◌, Option, Some, None, List, [], ◌∷◌, ◌++◌, length}
use Rattle.can_levels.specs.declared.level.Level.{Level}
use Rattle.can_node.specs.Stands.{StandsAt}
use Rattle.sja_journal.specs.NodeWords.{FinishedPiece}
use Rattle.sja_journal.specs.declared.entry.Entry.{Entry}
use Rattle.sja_journal.specs.declared.entry.Entry.TheVariants.{Bit}
use Rattle.sja_journal.specs.Free.{IsFree}
use Rattle.sja_replay.specs.Taking.{ends_in_abort, IsTaken, last_part}
use Rattle.sja_journal.specs.Places.{place_of}
use Rattle.sja_journal.specs.Records.{record_of}
use Rattle.sja_replay.specs.declared.bit_event.BitEvent.{BitEvent}
use Rattle.sja_replay.specs.declared.replay.Replay.{Replay}
use Rattle.sja_replay.specs.Closing.{Closes}
use Rattle.sja_replay.specs.Happened.{Happened}
use Rattle.sja_replay.specs.BitEvent.{Brings}

-- the entry that was looked at, before the others
abbrev pub with_ahead : Option Entry → List Entry → List Entry
with_ahead None es = es
with_ahead (Some e) es = e ∷ es

-- the entries that are left
abbrev pub left_of : Replay → List Entry
left_of r = with_ahead r.ahead r.entries

-- the replay has come through these entries: its node stands at their record, and it knows how many bits they have,
-- whether the activation begun last went bus-off, whether the last entry is an abort, and the bytes that are free
pub record IsAt (r : Replay) (before : List Entry) : Type 0 where
  pub found : List FinishedPiece
  pub stands : StandsAt r.node (record_of before) found
  pub bits : r.bits ≡ (place_of before).bits
  pub off : r.off ≡ (place_of before).off
  pub aborted : r.aborted ≡ ends_in_abort before
  pub free : IsFree (last_part before) r.free
  pub looked : r.ahead ≡ None → r.entries ≡ []

-- it went on to more entries, and whatever bit events those that are left have then, these come before them. Each bit
-- takes an entry at least
pub record GoesOn (old new : Replay) (before : List Entry) (hs : List BitEvent) : Type 0 where
  pub now : List Entry
  pub at : IsAt new now
  pub fewer : length (left_of new) + length hs ≤ length (left_of old)
  pub leads : (more : List BitEvent) → Happened now (left_of new) more → Happened before (left_of old) (hs ++ more)

-- after this journal each of these entries may come where it comes
abbrev pub AreTaken : List Entry → List Entry → Type 0
AreTaken before [] = Unit {0}
AreTaken before (e ∷ es) = IsTaken before e × AreTaken (before ++ e ∷ []) es

-- it went on to the next bit and past it: these entries came before the bit, this is what the bit brought, and these
-- are the entries that it brought
pub record TellsBit (old new : Replay) (before : List Entry) (h : BitEvent) : Type 0 where
  pub between : List Entry
  pub taken : AreTaken before between
  pub driven : Level
  pub seen : Level
  pub rest : List Entry
  pub left : left_of old ≡ between ++ Bit driven seen ∷ rest
  pub few : (place_of (before ++ between)).bits + 1 < 2 ^ 32
  pub brings : Brings (before ++ between) driven seen h
  pub brought : List Entry
  pub closes : Closes (last_part ((before ++ between) ++ Bit driven seen ∷ [])) h.events rest h.reception brought
      (left_of new)
  pub at : IsAt new (((before ++ between) ++ Bit driven seen ∷ []) ++ brought)
