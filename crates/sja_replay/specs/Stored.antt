-- The messages that were stored in a journal, beside the bit events of its bits (this project's own rule).
use Rattle.std.specs.Prelude.{◌≡◌, ℕ, suc, Some, List, ◌∷◌, ◌++◌, slice_get}
use Rattle.can_frame.specs.Frame.{FrameValue}
use Rattle.can_frame.specs.Message.{message}
use Rattle.sja_journal.specs.declared.entry.Entry.{Entry}
use Rattle.sja_journal.specs.declared.entry.Entry.TheVariants.{Stored as StoredEntry}
use Rattle.sja_journal.specs.Places.{place_of}
use Rattle.sja_replay.specs.declared.reception.Reception.TheVariants.{Stored}
use Rattle.sja_replay.specs.declared.bit_event.BitEvent.{BitEvent}

-- after so many bits this message was stored: the bit event of the last of them tells the frame whose message it is,
-- and that it was stored
pub record IsStoredIn (bit_events : List BitEvent) (n : ℕ) (m : List ℕ) : Type 0 where
  pub bit : ℕ
  pub count : n ≡ suc bit
  pub bit_event : BitEvent
  pub there : slice_get bit_events bit ≡ Some bit_event
  pub frame : FrameValue
  pub received : bit_event.events.received ≡ Some frame
  pub bytes : m ≡ message frame
  pub reception : bit_event.reception ≡ Some Stored

-- so it is with each message that was stored
abbrev pub AllStored : List Entry → List BitEvent → Type 0
AllStored j bit_events = (before after : List Entry) (m : List ℕ) → j ≡ before ++ StoredEntry m ∷ after →
    IsStoredIn bit_events (place_of before).bits m
