-- A journal with the entries that a bit brought.
use Rattle.std.proofs.Common.{◌≡◌, ◌||◌, ℕ, Bool, true, false, Option, Some, None, List, [], ◌∷◌, ◌++◌}
use Rattle.std.proofs.Common.{refl, sym, ap, ◌∙◌, subst, append-nil, append_assoc, if◌then◌else◌}
use Rattle.can_frame.specs.Frame.{FrameValue}
use Rattle.can_node_rules.specs.declared.bit_events.BitEvents.{BitEvents}
use Rattle.can_node_rules.specs.Outcomes.{entries_of}
use Rattle.sja_journal.specs.NodeWords.{NodeBit, NodeEntry, NodeTook, NodeWentOff}
use Rattle.sja_journal.specs.declared.entry.Entry.{Entry}
use Rattle.sja_journal.specs.declared.entry.Entry.TheVariants.{Bit, Up as Item, Abort, Stored, Overrun, Off}
use Rattle.sja_journal.specs.Places.{JournalPlace, place_of, past}
use Rattle.sja_journal.specs.Records.{told, record_of}
use Rattle.sja_journal.proofs.JournalEntries.Entering.{place_push, record_push}
use Rattle.sja_replay.specs.declared.reception.Reception.{Reception}
use Rattle.sja_replay.specs.Closing.{Judges, HasReception, Closes, off_if}
use Rattle.sja_replay.specs.Taking.{is_abort, ends_in_abort, last_part}
use Rattle.sja_replay.proofs.Knowledge.Places.{ends_push, last_part_on}

-- ---- what the node is told of them

-- of bus-off alone
abbrev pub off_told : Bool → List NodeEntry
off_told true = NodeWentOff ∷ []
off_told false = []

-- the entries behind a journal: the node is told of bus-off, the activation goes on, and no abort is among them
pub record IsBehind (j brought : List Entry) (went : Bool) : Type 0 where
  pub told : record_of (j ++ brought) ≡ record_of j ++ off_told went
  pub place : place_of (j ++ brought) ≡ record (place_of j) { off = went || (place_of j).off }
  pub part : last_part (j ++ brought) ≡ last_part j ++ brought
  pub quiet : ends_in_abort j ≡ false → ends_in_abort (j ++ brought) ≡ false

-- none
nothing_behind : (j : List Entry) → IsBehind j [] false
nothing_behind j =
    let P : List Entry → Type 0 = λ l. record_of l ≡ record_of j ++ [] in
    let Q : List Entry → Type 0 = λ l. place_of l ≡ place_of j in
    let R : List Entry → Type 0 = λ l. ends_in_abort j ≡ false → ends_in_abort l ≡ false in record {
      told = subst P (sym (append-nil j)) (sym (append-nil (record_of j)));
      place = subst Q (sym (append-nil j)) refl;
      part = ap last_part (append-nil j) ∙ sym (append-nil (last_part j));
      quiet = subst R (sym (append-nil j)) (λ h. h);
    }

-- one, of which the node is told so
one_behind : (j : List Entry) (e : Entry) (went : Bool) → told (place_of j).off e ≡ off_told went →
    past (place_of j) e ≡ record (place_of j) { off = went || (place_of j).off } → is_abort e ≡ false →
    IsBehind j (e ∷ []) went
one_behind j e went is place quiet = record {
  told = record_push j e ∙ ap (λ l. record_of j ++ l) is;
  place = place_push j e ∙ place;
  part = last_part_on j e (ap (λ (p : JournalPlace). p.activation) place);
  quiet = λ h. ends_push j e ∙ quiet;
}

-- some, and then others
both_behind : (j a b : List Entry) (went : Bool) → IsBehind j a false → IsBehind (j ++ a) b went →
    IsBehind j (a ++ b) went
both_behind j a b went h k =
    let P : List Entry → Type 0 = λ l. record_of l ≡ record_of j ++ off_told went in
    let Q : List Entry → Type 0 = λ l. place_of l ≡ record (place_of j) { off = went || (place_of j).off } in
    let R : List Entry → Type 0 = λ l. last_part l ≡ last_part j ++ (a ++ b) in
    let S : List Entry → Type 0 = λ l. ends_in_abort j ≡ false → ends_in_abort l ≡ false in record {
      told = subst P (append_assoc j a b)
          (k.told ∙ ap (λ l. l ++ off_told went) (h.told ∙ append-nil (record_of j)));
      place = subst Q (append_assoc j a b)
          (k.place ∙ ap (λ (p : JournalPlace). record p { off = went || p.off }) h.place);
      part = subst R (append_assoc j a b)
          (k.part ∙ ap (λ l. l ++ b) h.part ∙ append_assoc (last_part j) a b);
      quiet = subst S (append_assoc j a b) (λ q. k.quiet (h.quiet q));
    }

-- ---- a verdict

-- no verdict, or one
pub data IsVerdict : List Entry → Type 0 where
  none : IsVerdict []
  stored : (m : List ℕ) → IsVerdict (Stored m ∷ [])
  overrun : (m : List ℕ) → IsVerdict (Overrun m ∷ [])

is_verdict : (l m : List Entry) → l ≡ m → IsVerdict m → IsVerdict l
is_verdict l m e h = subst IsVerdict (sym e) h

judged : (p rest : List Entry) (reception : Reception) (verdict : List Entry) → Judges p rest reception verdict →
    IsVerdict verdict
judged p (Stored m ∷ more) reception verdict h = is_verdict verdict (Stored m ∷ []) h.1 (stored m)
judged p (Overrun m ∷ more) reception verdict h = is_verdict verdict (Overrun m ∷ []) h.1 (overrun m)
judged p [] reception verdict h = is_verdict verdict [] h.1 none
judged p (Bit driven seen ∷ more) reception verdict h = is_verdict verdict [] h.1 none
judged p (Item u ∷ more) reception verdict h = is_verdict verdict [] h.1 none
judged p (Abort ∷ more) reception verdict h = is_verdict verdict [] h.1 none
judged p (Off ∷ more) reception verdict h = is_verdict verdict [] h.1 none

pub verdict_of : (p rest : List Entry) (frame : Option FrameValue) (reception : Option Reception)
    (verdict : List Entry) →
    HasReception p frame rest reception verdict → IsVerdict verdict
verdict_of p rest None reception verdict h = is_verdict verdict [] h.1 none
verdict_of p rest (Some f) reception verdict h = judged p rest h.0 verdict h.2

verdict_behind : (j verdict : List Entry) → IsVerdict verdict → IsBehind j verdict false
verdict_behind j verdict none = nothing_behind j
verdict_behind j verdict (stored m) = one_behind j (Stored m) false refl refl refl
verdict_behind j verdict (overrun m) = one_behind j (Overrun m) false refl refl refl

off_behind : (j : List Entry) (went : Bool) → IsBehind j (off_if went) went
off_behind j true = one_behind j Off true refl refl refl
off_behind j false = nothing_behind j

-- what a bit brought
pub brought_behind : (j p : List Entry) (e : BitEvents) (rest : List Entry) (reception : Option Reception)
    (brought left : List Entry) → Closes p e rest reception brought left → IsBehind j brought e.went_off
brought_behind j p e rest reception brought left h =
    let P : List Entry → Type 0 = λ l. IsBehind j l e.went_off in
    subst P (sym h.are) (both_behind j h.verdict (off_if e.went_off) e.went_off
    (verdict_behind j h.verdict (verdict_of p rest e.received reception h.verdict h.has))
    (off_behind (j ++ h.verdict) e.went_off))

-- ---- the node's record with a bit

split : (r : List NodeEntry) (b : NodeBit) (went : Bool) →
    r ++ (if went then NodeTook b ∷ NodeWentOff ∷ [] else NodeTook b ∷ [])
    ≡ (r ++ NodeTook b ∷ []) ++ off_told went
split r b true = sym (append_assoc r (NodeTook b ∷ []) (NodeWentOff ∷ []))
split r b false = sym (append-nil (r ++ NodeTook b ∷ []))

pub bit_told : (r : List NodeEntry) (b : NodeBit) (e : BitEvents) →
    r ++ entries_of b e ≡ (r ++ NodeTook b ∷ []) ++ off_told e.went_off
bit_told r b e = split r b e.went_off
