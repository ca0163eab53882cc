-- The messages that were stored in a journal, beside the bit events that told them.
use Rattle.std.proofs.Common.{◌≡◌, inl, inr, ℕ, suc, Bool, true, false, Option, Some, None, List, [], ◌∷◌, ◌++◌, length}
use Rattle.std.proofs.Common.{refl, sym, ap, ◌∙◌, subst, arith, append_assoc, append-nil}
use Rattle.std.proofs.lemmas.Option.{slice_get_within}
use Rattle.std.proofs.lemmas.List.{same_from_push}
use Rattle.lemmas.proofs.Lists.{last_of}
use Rattle.can_levels.specs.declared.level.Level.{Level}
use Rattle.can_node_rules.proofs.Contending.FieldLevels.{get-append_left, get-append_right}
use Rattle.can_node_rules.proofs.OneCut.Entries.{some_not_none}
use Rattle.sja_journal.specs.declared.entry.Entry.{Entry}
use Rattle.sja_journal.specs.declared.entry.Entry.TheVariants.{Bit, Stored as StoredEntry, Overrun as OverrunEntry, Off}
use Rattle.sja_journal.specs.declared.verdict.Verdict.{Verdict}
use Rattle.sja_journal.specs.declared.verdict.Verdict.TheVariants.{Stored as ToStore, Overrun as ToLose}
use Rattle.sja_journal.specs.Places.{JournalPlace, place_of}
use Rattle.sja_journal.proofs.JournalEntries.Entering.{place_push}
use Rattle.sja_journal.specs.BitEntries.{HasBit, judged_as, off_as}
use Rattle.sja_replay.specs.declared.bit_event.BitEvent.{BitEvent}
use Rattle.sja_replay.specs.Stored.{IsStoredIn, AllStored}
use Rattle.sja_laws.proofs.Listed.BitEntries.{StoresIn}

-- ---- with more bit events

stored_on : (j : List Entry) (done more : List BitEvent) → AllStored j done → AllStored j (done ++ more)
stored_on j done more h before after m e =
    let s = h before after m e in record {
      bit = s.bit;
      count = s.count;
      bit_event = s.bit_event;
      there = get-append_left done more s.bit (slice_get_within done s.bit s.bit_event s.there) ∙ s.there;
      frame = s.frame;
      received = s.received;
      bytes = s.bytes;
      reception = s.reception;
    }

-- ---- with more entries

pub stored_none : AllStored [] []
stored_none before after m e = absurd (some_not_none before (StoredEntry m) after (sym e))

-- an entry more
stored_push : (j : List Entry) (e : Entry) (done : List BitEvent) → AllStored j done →
    ((m : List ℕ) → e ≡ StoredEntry m → IsStoredIn done (place_of j).bits m) → AllStored (j ++ e ∷ []) done
stored_push j e done h here before after m is = elim (last_of after) [
  | inl none ↦
      let same = same_from_push j before e (StoredEntry m) (is ∙ ap (λ l. before ++ StoredEntry m ∷ l) none) in
      subst (λ l. IsStoredIn done (place_of l).bits m) same.0 (here m same.1)
  | inr some ↦
      let whole : j ++ e ∷ [] ≡ (before ++ StoredEntry m ∷ some.0) ++ some.1 ∷ [] =
      is ∙ ap (λ l. before ++ StoredEntry m ∷ l) some.2
      ∙ sym (append_assoc before (StoredEntry m ∷ some.0) (some.1 ∷ [])) in
      h before some.0 m (same_from_push j (before ++ StoredEntry m ∷ some.0) e some.1 whole).0
]

-- one that stores nothing
pub stored_other : (j : List Entry) (e : Entry) (done : List BitEvent) → ((m : List ℕ) → e ≡ StoredEntry m → ⊥) →
    AllStored j done → AllStored (j ++ e ∷ []) done
stored_other j e done other h = stored_push j e done h (λ m is. absurd (other m is))

-- a bit with what it brought
pub stored_bit : (j k : List Entry) (driven seen : Level) (b : HasBit j driven seen k) (done : List BitEvent)
    (h : BitEvent) → length done ≡ (place_of j).bits → StoresIn b.verdict h → AllStored j done →
    AllStored k (done ++ h ∷ [])
stored_bit j k driven seen b done h count stores old =
    subst (λ l. AllStored l (done ++ h ∷ [])) (sym b.whole)
    (after_off (i ++ judged_as b.verdict) b.off (after_verdict b.verdict stores))
  where
    i : List Entry
    i = j ++ Bit driven seen ∷ []

    with_bit : AllStored i (done ++ h ∷ [])
    with_bit = stored_other j (Bit driven seen) (done ++ h ∷ []) (λ m e. cc) (stored_on j done (h ∷ []) old)

    bits : (place_of i).bits ≡ suc (place_of j).bits
    bits = let n = ap (λ (x : JournalPlace). x.bits) (place_push j (Bit driven seen)) in omega (arith, n)

    same : (m x : List ℕ) → StoredEntry m ≡ StoredEntry x → x ≡ m
    same m x e = cc

    after_verdict : (v : Option (Verdict × List ℕ)) → StoresIn v h → AllStored (i ++ judged_as v) (done ++ h ∷ [])
    after_verdict None s = subst (λ l. AllStored l (done ++ h ∷ [])) (sym (append-nil i)) with_bit
    after_verdict (Some (ToStore, m)) s =
        stored_push i (StoredEntry m) (done ++ h ∷ []) with_bit (λ x e. record {
          bit = (place_of j).bits;
          count = bits;
          bit_event = h;
          there = get-append_right done (h ∷ []) (length done) (place_of j).bits 0 refl (omega (arith, count));
          frame = s.0;
          received = s.1;
          bytes = same m x e ∙ s.2;
          reception = s.3;
        })
    after_verdict (Some (ToLose, m)) s = stored_other i (OverrunEntry m) (done ++ h ∷ []) (λ x e. cc) with_bit

    after_off : (l : List Entry) (off : Bool) → AllStored l (done ++ h ∷ []) →
        AllStored (l ++ off_as off) (done ++ h ∷ [])
    after_off l true s = stored_other l Off (done ++ h ∷ []) (λ m e. cc) s
    after_off l false s = subst (λ x. AllStored x (done ++ h ∷ [])) (sym (append-nil l)) s
