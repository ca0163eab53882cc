-- A bit that broke off, of one node.
use Rattle.std.proofs.Common.{◌≡◌, ℕ, suc, Bool, true, List, ◌++◌, refl, sym, ap, ◌∙◌, subst}
use Rattle.sja_regs.specs.declared.orders.Orders.{Orders}
use Rattle.sja_link.specs.declared.bus_end.BusEnd.{Ghosts as Ends}
use Rattle.sja_journal.specs.declared.entry.Entry.{Entry}
use Rattle.sja_journal.specs.declared.entry.Entry.TheVariants.{Abort, Off}
use Rattle.sja_journal.specs.Written.{Room, IsFullFor}
use Rattle.sja_journal.specs.Accounts.{Account, account}
use Rattle.sja_journal.specs.Parts.{part}
use Rattle.sja_journal.specs.Records.{record_of}
use Rattle.sja_journal.specs.Verdicts.{HasVerdicts}
use Rattle.sja_journal.specs.NodeWords.{FinishedPiece, IsCut, received}
use Rattle.sja_link.specs.BusLedgers.{link_of, activation_of, free_in}
use Rattle.sja_journal.specs.declared.bus_fault.BusFault.{BusFault}
use Rattle.sja_journal.specs.declared.bus_fault.BusFault.TheVariants.{BitsSpent, BadCredit, Stuck, BadOrder}
use Rattle.sja_journal.specs.declared.bus_fault.BusFault.TheVariants.{JournalFull}
use Rattle.sja_bus.specs.declared.bus_node.BusNode.{BusNode}
use Rattle.sja_journal.specs.Links.{Kept, stops_of}
use Rattle.sja_link.specs.Moving.{Goes}
use Rattle.sja_journal.specs.Aborting.{IsApplied}
use Rattle.sja_journal.specs.Opening.{IsOpen, BeginsWithin, begun_in}
use Rattle.sja_journal.specs.BitEntries.{MayHaveItems, off_as}
use Rattle.sja_journal.specs.OutOfOrder.{read_in, HasOff}
use Rattle.sja_bus_rules.specs.OutOfRoom.{IsOutOfRoom}
use Rattle.sja_bus_rules.specs.Reasons.{IsBrokenFor, GivesBack}
use Rattle.sja_bus.specs.Inside.BusNodeBits.{BreaksInBit}
use Rattle.sja_bus.specs.Inside.Following.{Reads, open_in}
use Rattle.sja_bus.specs.Inside.BusNodes.{IsBusNode}
use Rattle.sja_bus.specs.Inside.Taking.{BreaksBy, IsFull, IsGivenBack, FullForAbort}
use Rattle.sja_bus.proofs.Links.BusNodeParts.{open_by}

-- an abort's entry found no room, after items were taken
pub full_for_abort : {E : Type 0} (e : Ends E) (old mid new : BusNode) (end after : E) (f : BusFault) →
    (link_of mid.ledger).node ≡ (link_of old.ledger).node →
    mid.journal.room ≡ old.journal.room → MayHaveItems old.journal.entries mid.journal.entries →
    Goes e.same e.stands end after old.journal.entries mid.journal.entries →
    BeginsWithin (e.links end) old.journal.entries mid.journal.entries →
    (has_orders : Orders → Type 0) (orders : Orders) → has_orders orders → orders.abort ≡ true →
    IsApplied mid.journal.entries true → IsFull mid new Abort f → FullForAbort e has_orders old new end after f
full_for_abort e old mid new end after f node room items goes within has_orders orders are ordered due full =
    let F : List Entry → Type 0 = λ l. IsFullFor old.journal.room l Abort in
    let R : Room → Type 0 = λ r. IsFullFor r mid.journal.entries Abort in
    let P : List Entry → Type 0 = λ l. MayHaveItems old.journal.entries l in record {
      is = full.is ∙ ap (λ k. JournalFull k) node;
      items = subst P (sym full.same) items;
      orders = orders;
      are_orders = are;
      ordered = ordered;
      due = let D : List Entry → Type 0 = λ l. IsApplied l true in subst D (sym full.same) due;
      full = subst F (sym full.same) (subst R room full.full);
      kept = λ h was. let Q : List Entry → Type 0 = λ l. Kept e.stands l after h in
          subst Q (sym full.same) (goes.kept h was);
      within = let B : List Entry → Type 0 = λ l. BeginsWithin (e.links end) old.journal.entries l in
          subst B (sym full.same) within;
    }

-- the whole bit broke off, where an entry found no room of which that is said so
pub breaks_whole : {E P : Type 0} (e : Ends E) (end : E) (old new : BusNode) (f : BusFault) →
    (P → IsOutOfRoom old.journal.room old.journal.entries new.journal.entries) → BreaksBy P e end old new f →
    BreaksInBit e old new end f
breaks_whole e end old new (JournalFull k) more b = (b.0, more b.1)
breaks_whole e end old new (Stuck k) more b = b
breaks_whole e end old new (BadCredit k bytes) more b = absurd b
breaks_whole e end old new (BadOrder k) more b = absurd b
breaks_whole e end old new BitsSpent more b = absurd b

-- a put was given back in the activation that is read, where nothing was entered yet
pub gave_back : {E : Type 0} (e : Ends E) (s : BusNode) (end : E) → IsBusNode s → open_in s.activity ≡ 1 →
    Reads s.node s.journal.entries s.ended s.activity (free_in s.ledger) →
    IsGivenBack e (activation_of s.ledger) end → (off : Bool) (found : List FinishedPiece) →
    IsCut (record_of (s.journal.entries ++ off_as off)) found → HasVerdicts s.journal.entries (received found) →
    (HasOff (part s.journal.entries (suc s.ended)) → ⊥) → GivesBack e s.journal.entries s.journal.entries end
gave_back e s end bus_node runs reads back off found cut verdicts on =
    let j = s.journal.entries in let stopped = reads.stopped in
    let at : activation_of s.ledger ≡ read_in j = bus_node.own ∙ ap (λ n. suc n) (sym stopped) in
    let F : ℕ → Type 0 = λ a. e.full back.last a in
    let O : ℕ → Type 0 = λ n. HasOff (part j (suc n)) → ⊥ in
    let opened = open_by s.activity s.node j s.ended (free_in s.ledger) runs reads in record {
      last = back.last;
      same = back.same;
      is_full = subst F at back.is_full;
      stood = λ h was a. back.stood (suc a) (account j (suc a) (h a)) (was a);
      is_open = opened;
      was_open = opened;
      ended = refl;
      off = off;
      found = found;
      cut = cut;
      verdicts = verdicts;
      on = subst O (sym stopped) on;
    }

-- a put was given back, of an end that stood for an earlier journal before
pub gives_from : {E : Type 0} (e : Ends E) → ((x y z : E) → e.same x y → e.same y z → e.same x z) →
    (before mid j : List Entry) (end here : E) → e.same end here → stops_of mid ≡ stops_of before →
    (IsOpen mid → IsOpen before) →
    ((h : ℕ → Account) → Kept e.stands before end h → Kept e.stands mid here h) → GivesBack e mid j here →
    GivesBack e before j end
gives_from e same_trans before mid j end here same ended opened back b = record {
  last = b.last;
  same = same_trans end here b.last same b.same;
  is_full = b.is_full;
  stood = λ h was. b.stood h (back h was);
  is_open = b.is_open;
  was_open = opened b.was_open;
  ended = b.ended ∙ ended;
  off = b.off;
  found = b.found;
  cut = b.cut;
  verdicts = b.verdicts;
  on = b.on;
}

-- it broke off as bus-off was to be told
pub breaks_after : {E : Type 0} (e : Ends E) → ((x y z : E) → e.same x y → e.same y z → e.same x z) → (x y : E)
    (old mid new : BusNode) (f : BusFault) → (link_of mid.ledger).node ≡ (link_of old.ledger).node →
    (IsFullFor mid.journal.room mid.journal.entries Off → IsOutOfRoom old.journal.room
    old.journal.entries new.journal.entries) →
    stops_of mid.journal.entries ≡ stops_of old.journal.entries →
    begun_in mid.journal.entries ≡ begun_in old.journal.entries →
    Goes e.same e.stands x y old.journal.entries mid.journal.entries →
    BreaksBy (IsFullFor mid.journal.room mid.journal.entries Off) e y mid new f → BreaksInBit e old new x f
breaks_after e same_trans x y old mid new (JournalFull k) node short ended begun goes b = (b.0 ∙ node, short b.1)
breaks_after e same_trans x y old mid new (Stuck k) node short ended begun goes b = (
  b.0 ∙ node,
  gives_from e same_trans old.journal.entries mid.journal.entries new.journal.entries x y goes.is_same ended
      (λ opened. sym begun ∙ opened ∙ ap (λ n. suc n) ended) goes.kept b.1,
)
breaks_after e same_trans x y old mid new (BadCredit k bytes) node short ended begun goes b = absurd b
breaks_after e same_trans x y old mid new (BadOrder k) node short ended begun goes b = absurd b
breaks_after e same_trans x y old mid new BitsSpent node short ended begun goes b = absurd b

-- the entries of a bit found no room
pub broken_short : {E : Type 0} (e : Ends E) (node : ℕ) (room : Room) (before j : List Entry) (end : E)
    (f : BusFault) → f ≡ JournalFull node → IsOutOfRoom room before j → IsBrokenFor e node room before j end f
broken_short e node room before j end f is short =
    let P : BusFault → Type 0 = λ x. IsBrokenFor e node room before j end x in
    subst P (sym is) (refl, short)

-- the links stood for the journal before also where they were earlier
pub broken_from : {E : Type 0} (e : Ends E) → ((x y z : E) → e.same x y → e.same y z → e.same x z) → (node : ℕ)
    (room : Room) (before j : List Entry) (end here : E) (f : BusFault) → e.same end here →
    ((h : ℕ → Account) → Kept e.stands before end h → Kept e.stands before here h) →
    IsBrokenFor e node room before j here f → IsBrokenFor e node room before j end f
broken_from e same_trans node room before j end here (JournalFull k) same back b = b
broken_from e same_trans node room before j end here (Stuck k) same back b =
    (b.0, gives_from e same_trans before before j end here same refl (λ opened. opened) back b.1)
broken_from e same_trans node room before j end here (BadCredit k bytes) same back b = absurd b
broken_from e same_trans node room before j end here (BadOrder k) same back b = absurd b
broken_from e same_trans node room before j end here BitsSpent same back b = absurd b
