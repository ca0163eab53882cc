-- The entries that a bit brings behind its own: the verdict on a frame that was received with it, and bus-off (this
-- project's own rule).
use Rattle.std.specs.Prelude.{◌≡◌, ◌≤◌, ◌<◌, Bool, true, false, Option, Some, None, List, [], ◌∷◌, ◌++◌, length}
use Rattle.can_frame.specs.Frame.{FrameValue}
use Rattle.can_node_rules.specs.declared.bit_events.BitEvents.{BitEvents}
use Rattle.sja_journal.specs.declared.entry.Entry.{Entry}
use Rattle.sja_journal.specs.declared.entry.Entry.TheVariants.{Bit, Up as Item, Abort, Stored as StoredEntry}
use Rattle.sja_journal.specs.declared.entry.Entry.TheVariants.{Overrun as OverrunEntry, Off}
use Rattle.sja_journal.specs.Free.{free_of}
use Rattle.sja_replay.specs.declared.reception.Reception.{Reception}
use Rattle.sja_replay.specs.declared.reception.Reception.TheVariants.{Stored, Overrun, Stopped}

-- after a frame was received: the first of these entries says what became of it, where it is a verdict; p is the part
-- of the activation up to the bit. A message is stored exactly where it is at most as long as the bytes that are free
abbrev pub Judges : List Entry → List Entry → Reception → List Entry → Type 0
Judges p (StoredEntry m ∷ more) reception verdict =
    (reception ≡ Stored) × (verdict ≡ StoredEntry m ∷ []) × (length m ≤ free_of p)
Judges p (OverrunEntry m ∷ more) reception verdict =
    (reception ≡ Overrun (length m) (free_of p)) × (verdict ≡ OverrunEntry m ∷ []) × (free_of p < length m)
Judges p [] reception verdict = (reception ≡ Stopped) × (verdict ≡ [])
Judges p (Bit driven seen ∷ more) reception verdict = (reception ≡ Stopped) × (verdict ≡ [])
Judges p (Item u ∷ more) reception verdict = (reception ≡ Stopped) × (verdict ≡ [])
Judges p (Abort ∷ more) reception verdict = (reception ≡ Stopped) × (verdict ≡ [])
Judges p (Off ∷ more) reception verdict = (reception ≡ Stopped) × (verdict ≡ [])

-- the reception of the frame that was received, and the entry of its verdict; without a frame there is neither
abbrev pub HasReception : List Entry → Option FrameValue → List Entry → Option Reception → List Entry → Type 0
HasReception p None rest reception verdict = (reception ≡ None) × (verdict ≡ [])
HasReception p (Some f) rest reception verdict = (known : Reception) × (reception ≡ Some known)
    × Judges p rest known verdict

-- the entry of bus-off, or none
abbrev pub off_if : Bool → List Entry
off_if true = Off ∷ []
off_if false = []

-- after the part p, which ends in the bit, these entries begin with those that the bit brought, and then come others
pub record Closes (p : List Entry) (e : BitEvents) (rest : List Entry) (reception : Option Reception)
    (brought left : List Entry) : Type 0 where
  pub verdict : List Entry
  pub has : HasReception p e.received rest reception verdict
  pub are : brought ≡ verdict ++ off_if e.went_off
  pub whole : rest ≡ brought ++ left
