-- A node follows its journal through a bit.
use Rattle.std.proofs.Common.{◌≡◌, ℕ, Bool, true, false, Option, Some, None, List, [], ◌∷◌, ◌++◌, refl, sym, ap}
use Rattle.std.proofs.Common.{◌∙◌, subst, append-nil}
use Rattle.can_frame.specs.Frame.{FrameValue}
use Rattle.can_frame.specs.Message.{message}
use Rattle.can_levels.specs.declared.level.Level.{Level}
use Rattle.can_node_rules.specs.declared.bit_events.BitEvents.{BitEvents}
use Rattle.can_node.specs.declared.node.Node.{Node}
use Rattle.can_node_rules.specs.Bits.{Bit as Levels}
use Rattle.can_node_rules.specs.Record.{RecordEntry as Event}
use Rattle.can_node_rules.specs.Record.RecordEntry.{OneBit as Took}
use Rattle.can_node_rules.specs.FinishedPieces.{Count, FinishedPiece, ReceivedFrame, counted, none_yet, received}
use Rattle.can_node_rules.specs.Events.{received_in}
use Rattle.can_node.specs.Stands.{StandsAt, Samples, DrivesNext}
use Rattle.can_node_rules.specs.Outcomes.{closed_by}
use Rattle.can_node_rules.proofs.OneCut.Longer.{received_now}
use Rattle.sja_journal.specs.declared.verdict.Verdict.{Verdict}
use Rattle.sja_journal.specs.declared.verdict.Verdict.TheVariants.{Stored as ToStore, Overrun as ToLose}
use Rattle.sja_journal.specs.declared.entry.Entry.{Entry}
use Rattle.sja_journal.specs.declared.entry.Entry.TheVariants.{Bit, Off}
use Rattle.sja_journal.specs.Places.{place_of}
use Rattle.sja_journal.specs.Parts.{part}
use Rattle.sja_journal.specs.Records.{told, record_of}
use Rattle.sja_journal.specs.Verdicts.{filter_of, PassesAny, IsDue, HasVerdicts, entry_of}
use Rattle.sja_journal.proofs.JournalEntries.Entering.{record_push, record_counted, place_push}
use Rattle.sja_journal.proofs.Ledger.Judging.{filter_push, verdicts_quiet, verdicts_passed_by, verdicts_judged}
use Rattle.sja_bus.specs.Inside.Following.{Follows, FollowsBit}
use Rattle.sja_journal.specs.Entries.{off_left}
use Rattle.sja_journal.proofs.Growing.BitRecords.{entries_split}
use Rattle.can_node_rules.proofs.OneCut.Longer.{received_more}

-- a frame that a bit at the end of this journal finished
abbrev pub frame_now : List Entry → FrameValue → ReceivedFrame
frame_now j f = record { frame = f; activation = (place_of j).activation; bits = (place_of j).bits }

-- the node with the bit, and what it frames by then
pub record Sees (new : Node) (j : List Entry) (x seen : Level) (e : BitEvents)
    (frames : List ReceivedFrame) : Type 0 where
  pub found : List FinishedPiece
  pub stands : StandsAt new (record_of (j ++ Bit x seen ∷ []) ++ off_left e.went_off) found
  pub tells : received found ≡ frames ++ received_now e.received
      (record { starts = (place_of (j ++ Bit x seen ∷ [])).activation; bits = (place_of (j ++ Bit x seen ∷ [])).bits })

pub sees : (old new : Node) (j : List Entry) (x seen : Level) (e : BitEvents) → DrivesNext old x →
    Samples old new seen e → (h : Follows old j) →
    Sees new j x seen e (received h.found)
sees old new j x seen e drives samples h =
    let b : Levels = record { driven = x; seen = seen } in
    let r = record_of j in
    let leads = samples r h.found h.stands x (drives r h.found h.stands) in
    let k = counted none_yet (r ++ Took b ∷ []) in
    let one : record_of (j ++ Bit x seen ∷ []) ≡ r ++ Took b ∷ [] = record_push j (Bit x seen) in
    let P : List Event → Type 0 = λ l. StandsAt new l (h.found ++ closed_by k leads.step) in
    let count : k ≡ record {
      starts = (place_of (j ++ Bit x seen ∷ [])).activation;
      bits =
          (place_of (j ++ Bit x seen ∷ [])).bits;
    } =
    ap (counted none_yet) (sym one) ∙ record_counted (j ++ Bit x seen ∷ []) in
    let told_now : received_in leads.step ≡ e.received = sym (ap (λ (v : BitEvents). v.received) leads.told) in
    record {
      found = h.found ++ closed_by k leads.step;
      stands = subst P (entries_split r b e.went_off ∙ ap (λ l. l ++ off_left e.went_off) (sym one)) leads.stands;
      tells = received_more h.found k leads.step ∙ ap (λ o. received h.found ++ received_now o k) told_now
          ∙ ap (λ i. received h.found ++ received_now e.received i) count;
    }

-- the verdicts after the bit's entry alone
bit_quiet : (j : List Entry) (x seen : Level) (frames : List ReceivedFrame) → HasVerdicts j frames →
    HasVerdicts (j ++ Bit x seen ∷ []) frames
bit_quiet j x seen frames h = verdicts_quiet j (Bit x seen) frames (λ p. refl) (λ n. refl) (λ b. (tt, tt)) h

abbrev count_now : List Entry → Count
count_now j = record { starts = (place_of j).activation; bits = (place_of j).bits }

-- nothing was received
pub follows_bit : (old new : Node) (j : List Entry) (x seen : Level) (e : BitEvents) → DrivesNext old x →
    Samples old new seen e → e.received ≡ None →
    Follows old j → FollowsBit new (j ++ Bit x seen ∷ []) e.went_off
follows_bit old new j x seen e drives samples none h =
    let s = sees old new j x seen e drives samples h in
    let same : received s.found ≡ received h.found = s.tells
    ∙ ap (λ o. received h.found ++ received_now o (count_now (j ++ Bit x seen ∷ []))) none
    ∙ append-nil (received h.found) in
    record {
      found = s.found;
      stands = s.stands;
      verdicts = subst (λ (l : List ReceivedFrame). HasVerdicts (j ++ Bit x seen ∷ []) l) (sym same)
          (bit_quiet j x seen (received h.found) h.verdicts);
    }

-- a frame was received: it is the last that the node frames, in the same activation and by the same filter as before
-- the bit
record SeesFrame (new : Node) (j : List Entry) (x seen : Level) (e : BitEvents) (f : FrameValue)
    (frames : List ReceivedFrame) : Type 0 where
  found : List FinishedPiece
  stands : StandsAt new (record_of (j ++ Bit x seen ∷ []) ++ off_left e.went_off) found
  same : received found ≡ frames ++ frame_now (j ++ Bit x seen ∷ []) f ∷ []
  place : (place_of (j ++ Bit x seen ∷ [])).activation ≡ (place_of j).activation
  filter : filter_of (part (j ++ Bit x seen ∷ []) (place_of (j ++ Bit x seen ∷ [])).activation) ≡ filter_of (part j
      (place_of j).activation)

sees_frame : (old new : Node) (j : List Entry) (x seen : Level) (e : BitEvents) (f : FrameValue) → DrivesNext old x →
    Samples old new seen e → e.received ≡ Some f → (h : Follows old j) →
    SeesFrame new j x seen e f (received h.found)
sees_frame old new j x seen e f drives samples some h =
    let k = j ++ Bit x seen ∷ [] in
    let s = sees old new j x seen e drives samples h in
    let place : (place_of k).activation ≡ (place_of j).activation =
    ap (λ p. p.activation) (place_push j (Bit x seen)) in record {
      found = s.found;
      stands = s.stands;
      same = s.tells ∙ ap (λ o. received h.found ++ received_now o (count_now k)) some;
      place = place;
      filter = filter_push j (Bit x seen) (place_of k).activation (λ p. refl) ∙ ap (λ n. filter_of (part j n)) place;
    }

-- a frame was received, and doesn't pass
pub follows_stopped : (old new : Node) (j : List Entry) (x seen : Level) (e : BitEvents) (f : FrameValue) →
    DrivesNext old x → Samples old new seen e → e.received ≡ Some f →
    (PassesAny (filter_of (part j (place_of j).activation)) f → ⊥) → Follows old j →
    FollowsBit new (j ++ Bit x seen ∷ []) e.went_off
follows_stopped old new j x seen e f drives samples some stops h =
    let k = j ++ Bit x seen ∷ [] in
    let s = sees_frame old new j x seen e f drives samples some h in
    let P : Option _ → Type 0 = λ o. PassesAny o f in
    record {
      found = s.found;
      stands = s.stands;
      verdicts = subst (λ (l : List ReceivedFrame). HasVerdicts k l) (sym s.same)
          (verdicts_passed_by k (received h.found) (frame_now k f) (λ passes. stops (subst P s.filter passes))
          (bit_quiet j x seen (received h.found) h.verdicts));
    }

-- a frame was received that passes, and judged
pub follows_judged : (old new : Node) (j : List Entry) (x seen : Level) (e : BitEvents) (f : FrameValue) (v : Verdict) →
    DrivesNext old x → Samples old new seen e → e.received ≡ Some f →
    PassesAny (filter_of (part j (place_of j).activation)) f →
    IsDue (part (j ++ Bit x seen ∷ []) (place_of j).activation) (entry_of v (message f)) → Follows old j →
    FollowsBit new ((j ++ Bit x seen ∷ []) ++ entry_of v (message f) ∷ []) e.went_off
follows_judged old new j x seen e f v drives samples some passes due h =
    let k = j ++ Bit x seen ∷ [] in
    let s = sees_frame old new j x seen e f drives samples some h in
    let P : Option _ → Type 0 = λ o. PassesAny o f in
    let R : List Event → Type 0 = λ r. StandsAt new (r ++ off_left e.went_off) s.found in
    record {
      found = s.found;
      stands = subst R (sym (record_push k (entry_of v (message f))
          ∙ ap (λ l. record_of k ++ l) (silent (place_of k).off v (message f)) ∙ append-nil (record_of k))) s.stands;
      verdicts = subst (λ (l : List ReceivedFrame). HasVerdicts (k ++ entry_of v (message f) ∷ []) l) (sym s.same)
          (verdicts_judged k (received h.found) (frame_now k f) v refl refl (subst P (sym s.filter) passes)
          (subst (λ (n : ℕ). IsDue (part k n) (entry_of v (message f))) (sym s.place) due)
          (bit_quiet j x seen (received h.found) h.verdicts));
    }
  where
    silent : (off : Bool) (w : Verdict) (m : List ℕ) → told off (entry_of w m) ≡ []
    silent off ToStore m = refl
    silent off ToLose m = refl

-- the node is on the bus: the bit is done
pub follows_on : (node : Node) (j : List Entry) → FollowsBit node j false → Follows node j
follows_on node j h =
    let P : List Event → Type 0 = λ r. StandsAt node r h.found in record {
      found = h.found;
      stands = subst P (append-nil (record_of j)) h.stands;
      verdicts = h.verdicts;
    }

-- it went bus-off, which is entered
pub follows_off : (node : Node) (j : List Entry) → FollowsBit node j true → Follows node (j ++ Off ∷ [])
follows_off node j h =
    let P : List Event → Type 0 = λ r. StandsAt node r h.found in record {
      found = h.found;
      stands = subst P (sym (record_push j Off)) h.stands;
      verdicts = verdicts_quiet j Off (received h.found) (λ p. refl) (λ n. refl) (λ b. (tt, tt)) h.verdicts;
    }
