-- A replay after a bit.
use Rattle.std.proofs.Common.{◌≡◌, ◌≢◌, ◌||◌, ℕ, ◌+◌, ◌<◌, ◌≤◌, ◌^◌, false, Ok, Err, Option, None, List, [], ◌∷◌}
use Rattle.std.proofs.Common.{◌++◌, refl, sym, ap, ◌∙◌, subst, arith}
use Rattle.can_levels.specs.declared.level.Level.{Level}
use Rattle.can_node_rules.specs.declared.bit_events.BitEvents.{BitEvents}
use Rattle.can_node.specs.declared.node.Node.{Node}
use Rattle.can_node.specs.Stands.{StandsAt, DrivesNext, Samples}
use Rattle.can_node_rules.specs.Outcomes.{closed_by, entries_of}
use Rattle.sja_journal.specs.NodeWords.{NodeEntry, NodeTook, none_yet, counted}
use Rattle.sja_journal.specs.declared.entry.Entry.{Entry}
use Rattle.sja_journal.specs.declared.entry.Entry.TheVariants.{Bit}
use Rattle.sja_journal.specs.Free.{IsFree}
use Rattle.sja_journal.specs.Places.{JournalPlace, place_of}
use Rattle.sja_journal.specs.Records.{record_of}
use Rattle.sja_journal.proofs.JournalEntries.Entering.{place_push, record_push}
use Rattle.sja_replay.specs.declared.reception.Reception.{Reception}
use Rattle.sja_replay.specs.declared.bit_event.BitEvent.{BitEvent}
use Rattle.sja_replay.specs.declared.replay.Replay.{Replay}
use Rattle.sja_replay.specs.declared.view.View.{View}
use Rattle.sja_replay.specs.Closing.{Closes}
use Rattle.sja_replay.specs.Happened.{IsUntold}
use Rattle.sja_replay.specs.Happened.IsUntold.{misdriven, misfits}
use Rattle.sja_replay.specs.BitEvent.{Brings, bit_of}
use Rattle.sja_replay.specs.declared.misfit.Misfit.{Misfit}
use Rattle.sja_replay.specs.Inside.Walking.{HasLooked, IsClosed, IsBrought, ClosesNext}
use Rattle.sja_replay.specs.Replaying.{with_ahead, left_of, IsAt}
use Rattle.sja_replay.specs.Taking.{last_part}
use Rattle.sja_replay.specs.Viewing.{Shows}
use Rattle.can_node_rules.proofs.OneCut.SameCuts.{drives_same}
use Rattle.sja_replay.proofs.BitTaken.Closings.{brought_behind, bit_told, off_told}
use Rattle.sja_replay.proofs.Knowledge.Places.{ends_push, free_on}

-- what the bit brought
abbrev pub bit_event : Replay → Level → Level → View → BitEvents → View → Option Reception → BitEvent
bit_event r driven seen before e after reception = record {
  bit = r.bits;
  driven = driven;
  seen = seen;
  aborted = r.aborted;
  before = before;
  events = e;
  after = after;
  reception = reception;
}

pub brings : (r : Replay) (node : Node) (j : List Entry) (driven seen : Level) (before : View) (e : BitEvents)
    (after : View) (reception : Option Reception) → IsAt r j → DrivesNext r.node driven → Samples r.node node seen e →
    Shows r.node before → Shows node after → Brings j driven seen (bit_event r driven seen before e after reception)
brings r node j driven seen before e after reception h drives samples shows showed =
    let x = drives (record_of j) h.found h.stands in
    let leads = samples (record_of j) h.found h.stands driven x in record {
      found = h.found;
      cut = h.stands.cut;
      step = leads.step;
      drives = x;
      bit = h.bits;
      levels = (refl, refl);
      aborted = h.aborted;
      before = shows (record_of j) h.found h.stands;
      events = leads.told;
      with_bit = leads.stands.cut;
      role = leads.role;
      after = showed _ _ leads.stands;
    }

-- the part up to the bit, and the bytes that are free then
pub free_bit : (r : Replay) (j : List Entry) (driven seen : Level) → IsAt r j →
    IsFree (last_part (j ++ Bit driven seen ∷ [])) r.free
free_bit r j driven seen h = free_on j (Bit driven seen) r.free r.free refl refl h.free

-- the replay has come through the bit and what it brought; mid is the replay after the bit alone
bit_at : (r mid new : Replay) (j : List Entry) (driven seen : Level) (e : BitEvents) (reception : Option Reception) →
    IsAt r j → DrivesNext r.node driven → Samples r.node mid.node seen e →
    (k : IsClosed mid new (last_part (j ++ Bit driven seen ∷ [])) e reception) → mid.off ≡ r.off →
    mid.bits ≡ r.bits + 1 → mid.aborted ≡ false → IsAt new ((j ++ Bit driven seen ∷ []) ++ k.brought)
bit_at r mid new j driven seen e reception h drives samples k off bits aborted =
    let i : List Entry = j ++ Bit driven seen ∷ [] in
    let leads = samples (record_of j) h.found h.stands driven (drives (record_of j) h.found h.stands) in
    let more = closed_by (counted none_yet (record_of j ++ NodeTook (bit_of driven seen) ∷ [])) leads.step in
    let b = brought_behind i (last_part i) e (left_of mid) reception k.brought (left_of new) k.closes in
    let place = b.place
    ∙ ap (λ (p : JournalPlace). record p { off = e.went_off || p.off }) (place_push j (Bit driven seen)) in
    let P : List NodeEntry → Type 0 = λ l. StandsAt new.node l (h.found ++ more) in
    let N : Node → Type 0 = λ n. StandsAt n (record_of j ++ entries_of (bit_of driven seen) e) (h.found ++ more) in
    let Q : List Entry → Type 0 = λ l. IsFree l new.free in record {
      found = h.found ++ more;
      stands = subst P (bit_told (record_of j) (bit_of driven seen) e
          ∙ ap (λ l. l ++ off_told e.went_off) (sym (record_push j (Bit driven seen))) ∙ sym b.told)
          (subst N (sym k.same.node) leads.stands);
      bits = k.same.bits ∙ bits ∙ ap (λ n. n + 1) h.bits ∙ sym (ap (λ (p : JournalPlace). p.bits) place);
      off = k.off ∙ ap (λ o. e.went_off || o) (off ∙ h.off) ∙ sym (ap (λ (p : JournalPlace). p.off) place);
      aborted = k.same.aborted ∙ aborted ∙ sym (b.quiet (ends_push j (Bit driven seen)));
      free = subst Q (sym b.part) k.free;
      looked = k.looked;
    }

-- only the node, the number of bits and the mark of an abort have changed
pub record HasBit (r mid : Replay) : Type 0 where
  pub bits : mid.bits ≡ r.bits + 1
  pub few : mid.bits < 2 ^ 32
  pub aborted : mid.aborted ≡ false
  pub off : mid.off ≡ r.off
  pub free : mid.free ≡ r.free
  pub ahead : mid.ahead ≡ r.ahead
  pub entries : mid.entries ≡ r.entries

pub has_bit : (r : Replay) (node : Node) (bits : ℕ) (fits : r.free ≤ 64) → bits ≡ r.bits + 1 → bits < 2 ^ 32 →
    HasBit r (record r { node = node; bits = bits; aborted = false; fits = fits })
has_bit r node bits fits one few = record {
  bits = one;
  few = few;
  aborted = refl;
  off = refl;
  free = refl;
  ahead = refl;
  entries = refl;
}

left_same : (r mid : Replay) → HasBit r mid → left_of mid ≡ left_of r
left_same r mid k = ap (λ a. with_ahead a mid.entries) k.ahead ∙ ap (with_ahead r.ahead) k.entries

free_mid : (r mid : Replay) (j : List Entry) (driven seen : Level) → HasBit r mid → IsAt r j →
    IsFree (last_part (j ++ Bit driven seen ∷ [])) mid.free
free_mid r mid j driven seen k h =
    let P : ℕ → Type 0 = λ n. IsFree (last_part (j ++ Bit driven seen ∷ [])) n in
    subst P (sym k.free) (free_bit r j driven seen h)

looked_mid : (r mid : Replay) (j : List Entry) → HasBit r mid → IsAt r j → HasLooked mid
looked_mid r mid j k h none = k.entries ∙ h.looked (sym k.ahead ∙ none)

-- a bit that is told
pub told_bit : (r mid new : Replay) (j : List Entry) (driven seen x : Level) (before : View) (e : BitEvents)
    (after : View) (reception : Option Reception) → IsAt r j → DrivesNext r.node x → x ≡ driven →
    Samples r.node mid.node seen e → Shows r.node before → Shows mid.node after → ClosesNext mid new e (Ok reception) →
    HasBit r mid → IsBrought r new j driven seen (bit_event r driven seen before e after reception)
told_bit r mid new j driven seen x before e after reception h drove is samples shows showed closes k =
    let D : Level → Type 0 = λ y. DrivesNext r.node y in
    let drives = subst D is drove in
    let i : List Entry = j ++ Bit driven seen ∷ [] in
    let closed = closes (last_part i) (free_mid r mid j driven seen k h) (looked_mid r mid j k h) in
    let P : List Entry → Type 0 = λ l. Closes (last_part i) e l reception closed.brought (left_of new) in
    let few : (place_of j).bits + 1 < 2 ^ 32 =
    (let a = h.bits in let b = k.bits in let m = k.few in omega (arith, a, b, m)) in record {
      few = few;
      brings = brings r mid.node j driven seen before e after reception h drives samples shows showed;
      brought = closed.brought;
      closes = subst P (left_same r mid k) closed.closes;
      at = bit_at r mid new j driven seen e reception h drives samples closed k.off k.bits k.aborted;
    }

-- ---- why a bit isn't told

-- the node drives the other level
pub misdriven_at : (r : Replay) (j : List Entry) (driven seen x : Level) (rest : List Entry) → IsAt r j →
    DrivesNext r.node x → x ≢ driven → IsUntold j driven seen rest
misdriven_at r j driven seen x rest h drives other =
    misdriven h.stands.cut (λ same. other (drives_same (record_of j) h.found h.found h.stands.cut h.stands.cut x driven
    (drives (record_of j) h.found h.stands) same))

-- the entries behind it are others
pub untold_bit : (r mid new : Replay) (j : List Entry) (driven seen x : Level) (before : View) (e : BitEvents)
    (after : View) (misfit : Misfit) → IsAt r j → DrivesNext r.node x → x ≡ driven →
    Samples r.node mid.node seen e → Shows r.node before → Shows mid.node after →
    ClosesNext mid new e (Err misfit) → HasBit r mid → IsUntold j driven seen (left_of r)
untold_bit r mid new j driven seen x before e after misfit h drove is samples shows showed closes k =
    let D : Level → Type 0 = λ y. DrivesNext r.node y in
    let i : List Entry = j ++ Bit driven seen ∷ [] in
    let never = closes (last_part i) (free_mid r mid j driven seen k h) (looked_mid r mid j k h) in
    let P : List Entry → Type 0 = λ l. (reception : Option Reception) (brought left : List Entry) →
    Closes (last_part i) e l reception brought left → ⊥ in
    misfits (bit_event r driven seen before e after None)
    (brings r mid.node j driven seen before e after None h (subst D is drove) samples shows showed)
    (subst P (left_same r mid k) never)
