-- Of the bit events of a whole journal those of a front of it, past an item or an abort.
use Rattle.std.proofs.Common.{◌≡◌, ◌+◌, Bool, true, false, List, [], ◌∷◌, ◌++◌, length, refl, sym, ap, ◌∙◌, subst}
use Rattle.std.proofs.Common.{append-nil}
use Rattle.sja_journal.specs.declared.up.Up.{Up}
use Rattle.sja_journal.specs.declared.up.Up.TheVariants.{Start as StartItem, Credit, Send as SendItem, Stop as StopItem}
use Rattle.sja_journal.specs.declared.entry.Entry.{Entry}
use Rattle.sja_journal.specs.declared.entry.Entry.TheVariants.{Up as Item, Abort}
use Rattle.sja_journal.specs.Places.{JournalPlace, past, place_of}
use Rattle.sja_journal.proofs.JournalEntries.Entering.{place_push}
use Rattle.sja_journal.specs.BitEntries.{abort_as}
use Rattle.sja_replay.specs.declared.bit_event.BitEvent.{BitEvent}
use Rattle.sja_replay.specs.Happened.{Happened}
use Rattle.sja_replay.specs.Happened.Happened.{over, between, bit as told_bit, refused, untold}
use Rattle.sja_replay.specs.Taking.{IsTaken}
use Rattle.sja_replay.specs.Stored.{AllStored}
use Rattle.sja_laws.proofs.Listed.Stores.{stored_other}

-- past an entry that is no bit and may come there
pub entry_on : (j rest : List Entry) (e : Entry) (hs : List BitEvent) → Happened j (e ∷ rest) hs → IsTaken j e →
    Happened (j ++ e ∷ []) rest hs
entry_on j rest e hs (between t x) taken = x
entry_on j rest e hs (told_bit few brings closes x) taken = absurd taken.takes
entry_on j rest e hs (refused never other) taken = absurd (never taken)
entry_on j rest e hs (untold why) taken = absurd taken.takes

-- where nothing is left there are no bit events
pub none_more : (j : List Entry) (hs : List BitEvent) → Happened j [] hs → hs ≡ []
none_more j hs over = refl

-- of the bit events of the whole journal these are the ones of its bits, one for each, with each message that was
-- stored; the others are those of what is left
pub record Passed (hs : List BitEvent) (j rest : List Entry) : Type 0 where
  pub done : List BitEvent
  pub more : List BitEvent
  pub parts : hs ≡ done ++ more
  pub count : length done ≡ (place_of j).bits
  pub stored : AllStored j done
  pub later : Happened j rest more

module _ (whole : List Entry) where
  abbrev pub Passes : List Entry → List Entry → Type 0
  Passes j rest = (hs : List BitEvent) → Happened [] whole hs → Passed hs j rest

  -- whatever are the bit events of what is left, the whole journal has bit events
  abbrev pub Leads : List Entry → List Entry → Type 0
  Leads j rest = (more : List BitEvent) → Happened j rest more → (hs : List BitEvent) × Happened [] whole hs

  pub passes_item : (j k rest : List Entry) (u : Up) → k ≡ j ++ Item u ∷ [] → IsTaken j (Item u) →
      Passes j (Item u ∷ rest) → Passes k rest
  passes_item j k rest u is taken h hs x =
      let a = h hs x in
      let bits : (place_of k).bits ≡ (place_of j).bits =
      ap (λ (l : List Entry). (place_of l).bits) is ∙ ap (λ (s : JournalPlace). s.bits) (place_push j (Item u))
      ∙ same u in
      let P : List Entry → Type 0 = λ l. Happened l rest a.more in
      let Q : List Entry → Type 0 = λ l. AllStored l a.done in record {
        done = a.done;
        more = a.more;
        parts = a.parts;
        count = a.count ∙ sym bits;
        stored = subst Q (sym is) (stored_other j (Item u) a.done (λ m e. cc) a.stored);
        later = subst P (sym is) (entry_on j rest (Item u) a.more a.later taken);
      }
    where
      same : (v : Up) → (past (place_of j) (Item v)).bits ≡ (place_of j).bits
      same (StartItem config) = refl
      same (Credit n) = refl
      same (SendItem request) = refl
      same StopItem = refl

  pub leads_item : (j k rest : List Entry) (u : Up) → k ≡ j ++ Item u ∷ [] → IsTaken j (Item u) →
      Leads j (Item u ∷ rest) → Leads k rest
  leads_item j k rest u is taken h more x =
      let P : List Entry → Type 0 = λ l. Happened l rest more in h more (between taken (subst P is x))

  -- an abort, where one changed the node
  pub passes_abort : (j rest : List Entry) (changed : Bool) → (changed ≡ true → IsTaken j Abort) →
      Passes j (abort_as changed ++ rest) → Passes (j ++ abort_as changed) rest
  passes_abort j rest true taken h hs x =
      let a = h hs x in
      let bits = ap (λ (s : JournalPlace). s.bits) (place_push j Abort) in record {
        done = a.done;
        more = a.more;
        parts = a.parts;
        count = a.count ∙ sym bits;
        stored = stored_other j Abort a.done (λ m e. cc) a.stored;
        later = entry_on j rest Abort a.more a.later (taken refl);
      }
  passes_abort j rest false taken h hs x =
      let P : List Entry → Type 0 = λ l. Passed hs l rest in subst P (sym (append-nil j)) (h hs x)

  pub leads_abort : (j rest : List Entry) (changed : Bool) → (changed ≡ true → IsTaken j Abort) →
      Leads j (abort_as changed ++ rest) → Leads (j ++ abort_as changed) rest
  leads_abort j rest true taken h more x = h more (between (taken refl) x)
  leads_abort j rest false taken h more x =
      let P : List Entry → Type 0 = λ l. Happened l rest more in h more (subst P (append-nil j) x)
