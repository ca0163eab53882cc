-- The bits of a node that are told one after another (this project's own rule).
use Rattle.std.specs.Prelude.{◌≡◌, ◌<◌, ℕ, zero, suc, false, Option, None, List, [], slice_get}
use Rattle.sja_journal.specs.declared.entry.Entry.{Entry}
use Rattle.sja_replay.specs.declared.bit_event.BitEvent.{BitEvent}
use Rattle.sja_replay.specs.ReplayProgress.{HasCome, left_in}
use Rattle.sja_replay.specs.Happened.{Happened}
use Rattle.sja_replay.specs.ReplayRest.{RestsFor}
use Rattle.text_trace.specs.declared.node_bits.NodeBits.{NodeBits}

-- ---- how far they came

-- the bit before this one; there is none before the first
abbrev pub bit_before : ℕ → List BitEvent → Option BitEvent
bit_before zero hs = None
bit_before (suc bit) hs = slice_get hs bit

-- what the bit at hand brought
abbrev pub at_hand : NodeBits → Option BitEvent
at_hand b = b.bit

-- after so many bits these bit events of a journal were told, and the last of these bits is at hand
abbrev pub HaveCome : List Entry → ℕ → NodeBits → List BitEvent → Type 0
HaveCome journal bits b hs = HasCome b.over journal bits b.replay hs × (at_hand b ≡ bit_before bits hs)

-- after some bits of some journal these bit events were told
pub record IsUnderway (b : NodeBits) : Type 0 where
  pub journal : List Entry
  pub bits : ℕ
  pub told : List BitEvent
  pub come : HasCome b.over journal bits b.replay told

-- ---- more of them

-- the bit events of the bits before this one are the same
abbrev pub HaveSame : ℕ → List BitEvent → List BitEvent → Type 0
HaveSame bits old new = (i : ℕ) → i < bits → slice_get new i ≡ slice_get old i

-- one bit more was told of a journal, and it's at hand
pub record ToldMore (journal : List Entry) (bits : ℕ) (old : List BitEvent) (new : NodeBits) : Type 0 where
  pub told : List BitEvent
  pub come : HaveCome journal (suc bits) new told
  pub bit : at_hand new ≡ slice_get told bits
  pub same : HaveSame bits old told

-- all of a journal was told
pub record ToldAll (journal : List Entry) (bits : ℕ) (old : List BitEvent) : Type 0 where
  pub told : List BitEvent
  pub are : Happened [] journal told
  pub same : HaveSame bits old told

-- a bit more is told, or none is left
pub record TellsOn (old new : NodeBits) : Type 0 where
  pub fewer : old.over ≡ false → IsUnderway old → left_in new.over new.replay < left_in old.over old.replay
  pub tells : (journal : List Entry) (bits : ℕ) (told : List BitEvent) →
      HasCome old.over journal bits old.replay told → ToldMore journal bits told new

-- all are told
pub record TellsAll (old new : NodeBits) : Type 0 where
  pub tells : (journal : List Entry) (bits : ℕ) (told : List BitEvent) →
      HasCome old.over journal bits old.replay told → ToldAll journal bits told

-- ---- bits of which nothing is told

-- it stays at rest for so many bits
pub record MayRest (n : ℕ) (b : NodeBits) : Type 0 where
  pub under : b.over ≡ false
  pub rests : RestsFor b.replay n
