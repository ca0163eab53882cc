-- A bit of a journal that steps and bits made is told, with the entries that it brought.
use Rattle.std.proofs.Common.{◌≡◌, ◌<◌, ◌≤◌, ◌+◌, ℕ, Bool, true, false, Option, Some, None, List, []}
use Rattle.std.proofs.Common.{◌∷◌, ◌++◌, length, refl, sym, ap, ◌∙◌, subst, append_assoc}
use Rattle.can_levels.specs.declared.level.Level.{Level}
use Rattle.can_frame.specs.Frame.{FrameValue}
use Rattle.can_frame.specs.Message.{message}
use Rattle.can_node_rules.specs.declared.bit_events.BitEvents.{BitEvents}
use Rattle.can_node_rules.specs.Outcomes.{closed_by, entries_of}
use Rattle.sja_journal.specs.NodeWords.{NodeEntry, NodeTook, received, IsCut, none_yet, counted}
use Rattle.sja_journal.specs.declared.entry.Entry.{Entry}
use Rattle.sja_journal.specs.declared.entry.Entry.TheVariants.{Bit, Up as Item, Abort, Stored as StoredEntry}
use Rattle.sja_journal.specs.declared.entry.Entry.TheVariants.{Overrun as OverrunEntry, Off}
use Rattle.sja_journal.specs.declared.verdict.Verdict.{Verdict}
use Rattle.sja_journal.specs.declared.verdict.Verdict.TheVariants.{Stored as ToStore, Overrun as ToLose}
use Rattle.sja_journal.specs.Free.{free_of}
use Rattle.sja_journal.specs.Records.{record_of}
use Rattle.sja_journal.proofs.Growing.BitRecords.{record_bit, entries_split}
use Rattle.sja_journal.specs.BitEntries.{HasBit, judged_as, off_as}
use Rattle.sja_journal.specs.Entries.{off_left}
use Rattle.sja_bus_rules.specs.Telling.{IsTurn}
use Rattle.sja_regs.specs.declared.bus_turn.BusTurn.{BusTurn}
use Rattle.sja_replay.specs.declared.reception.Reception.{Reception}
use Rattle.sja_replay.specs.declared.reception.Reception.TheVariants.{Stored, Overrun, Stopped}
use Rattle.sja_replay.specs.declared.bit_event.BitEvent.{BitEvent}
use Rattle.sja_replay.specs.Closing.{Judges, HasReception, Closes, off_if}
use Rattle.sja_replay.specs.BitEvent.{bit_of}
use Rattle.sja_replay.proofs.Once.Bits.{Tells, role_same}
use Rattle.sja_replay.specs.Quiet.{IsQuiet}

-- ---- the entries that a bit brings

pub off_alike : (off : Bool) → off_as off ≡ off_if off
off_alike true = refl
off_alike false = refl

stops_quiet : (p rest : List Entry) → IsQuiet rest → Judges p rest Stopped []
stops_quiet p [] q = (refl, refl)
stops_quiet p (Bit driven seen ∷ rest) q = (refl, refl)
stops_quiet p (Item u ∷ rest) q = (refl, refl)
stops_quiet p (Abort ∷ rest) q = (refl, refl)
stops_quiet p (StoredEntry m ∷ rest) q = absurd q
stops_quiet p (OverrunEntry m ∷ rest) q = absurd q
stops_quiet p (Off ∷ rest) q = absurd q

-- a frame with no verdict behind it was stopped
pub stops_off : (p rest : List Entry) (off : Bool) → IsQuiet rest → Judges p (off_as off ++ rest) Stopped []
stops_off p rest true q = (refl, refl)
stops_off p rest false q = stops_quiet p rest q

-- a verdict that is right: it is on a frame, and says whether the message fits
abbrev pub IsRightFor : List Entry → Option FrameValue → Option (Verdict × List ℕ) → Type 0
IsRightFor p f None = Unit {0}
IsRightFor p f (Some (ToStore, m)) =
    (length m ≤ free_of p) × ((frame : FrameValue) × (f ≡ Some frame) × (m ≡ message frame))
IsRightFor p f (Some (ToLose, m)) =
    (free_of p < length m) × ((frame : FrameValue) × (f ≡ Some frame) × (m ≡ message frame))

reception_of : (p rest : List Entry) (off : Bool) (f : Option FrameValue) (v : Option (Verdict × List ℕ)) →
    IsQuiet rest →
    IsRightFor p f v → (reception : Option Reception) × HasReception p f (judged_as v ++ (off_as off ++ rest))
    reception (judged_as v)
reception_of p rest off None None q r = (None, (refl, refl))
reception_of p rest off (Some x) None q r = (Some Stopped, (Stopped, refl, stops_off p rest off q))
reception_of p rest off (Some x) (Some (ToStore, m)) q r = (Some Stored, (Stored, refl, (refl, refl, r.0)))
reception_of p rest off (Some x) (Some (ToLose, m)) q r =
    (Some (Overrun (length m) (free_of p)), (Overrun (length m) (free_of p), refl, (refl, refl, r.0)))
reception_of p rest off None (Some (ToStore, m)) q r = let no = r.1.1 in absurd cc
reception_of p rest off None (Some (ToLose, m)) q r = let no = r.1.1 in absurd cc

pub closes_by : (p rest : List Entry) (off : Bool) (e : BitEvents) (v : Option (Verdict × List ℕ)) → IsQuiet rest →
    IsRightFor p e.received v → e.went_off ≡ off →
    (reception : Option Reception) × Closes p e (judged_as v ++ (off_as off ++ rest)) reception (judged_as v
    ++ off_as off) rest
closes_by p rest off e v q r went =
    let f = reception_of p rest off e.received v q r in (
      f.0,
      record {
        verdict = judged_as v;
        has = f.1;
        are = ap (λ l. judged_as v ++ l) (off_alike off ∙ ap off_if (sym went));
        whole = sym (append_assoc (judged_as v) (off_as off) rest);
      },
    )

-- a message that was stored is that of the frame that the bit event has, and so is its reception
abbrev pub StoresIn : Option (Verdict × List ℕ) → BitEvent → Type 0
StoresIn None h = Unit {0}
StoresIn (Some (ToStore, m)) h =
    (frame : FrameValue) × (h.events.received ≡ Some frame) × (m ≡ message frame) × (h.reception ≡ Some Stored)
StoresIn (Some (ToLose, m)) h = Unit {0}

pub stores_by : (p rest : List Entry) (off : Bool) (v : Option (Verdict × List ℕ)) (h : BitEvent)
    (brought left : List Entry) → IsRightFor p h.events.received v →
    Closes p h.events (judged_as v ++ (off_as off ++ rest)) h.reception brought left → StoresIn v h
stores_by p rest off None h brought left r c = tt
stores_by p rest off (Some (ToLose, m)) h brought left r c = tt
stores_by p rest off (Some (ToStore, m)) h brought left r c =
    let P : Option FrameValue → Type 0 =
    λ f. HasReception p f (judged_as (Some (ToStore, m)) ++ (off_as off ++ rest)) h.reception c.verdict in
    let k = subst P r.1.1 c.has in (r.1.0, r.1.1, r.1.2, k.1 ∙ ap Some k.2.0)

-- ---- a turn tells what a bit event has

pub tells_turn : (changed : Bool) (j k : List Entry) (driven seen : Level) (b : HasBit j driven seen k)
    (turn : BusTurn) → IsTurn changed j driven seen k b turn → Tells j driven seen turn.events
tells_turn changed j k driven seen b turn t =
    let same : record_of j ++ entries_of (bit_of driven seen) turn.events ≡ record_of k =
    entries_split (record_of j) (bit_of driven seen) turn.events.went_off
    ∙ ap (λ w. (record_of j ++ NodeTook (bit_of driven seen) ∷ []) ++ off_left w) t.off
    ∙ sym (record_bit j k driven seen b) in
    let pieces = t.found ++ closed_by (counted none_yet (record_of j ++ NodeTook (bit_of driven seen) ∷ [])) t.step in
    let P : List NodeEntry → Type 0 = λ l. IsCut l pieces in
    let w = subst P (sym same) t.after in record {
      found = t.found;
      cut = t.cut;
      step = t.step;
      told = t.events;
      with_bit = w;
      role = t.says.receiving
          ∙ role_same (record_of k) (record_of j ++ entries_of (bit_of driven seen) turn.events) t.says.found pieces
          t.says.cut w (sym same);
    }

-- ---- a bit of a journal
