-- One bit of a node that runs.
use Rattle.std.proofs.Common.{append_assoc, ◌≡◌, ℕ, ◌+◌, arith, Bool, true, false, Option, Some, None, List, [], ◌∷◌}
use Rattle.std.proofs.Common.{◌++◌, refl, sym, ap, ◌∙◌, subst, append-nil}
use Rattle.std.specs.Prelude.{Result, Ok, Err, OnOk, IfOk}
use Rattle.can_frame.specs.declared.filter.Filter.{Filter}
use Rattle.can_frame.specs.Frame.{FrameValue}
use Rattle.can_frame.specs.Message.{message}
use Rattle.can_levels.specs.declared.level.Level.{Level}
use Rattle.can_node_rules.specs.declared.bit_events.BitEvents.{BitEvents}
use Rattle.can_node.specs.declared.node.Node.{Node}
use Rattle.can_node.specs.Stands.{Samples, DrivesNext}
use Rattle.sja_journal.specs.declared.verdict.Verdict.{Verdict}
use Rattle.sja_journal.specs.declared.verdict.Verdict.TheVariants.{Stored as ToStore, Overrun as ToLose}
use Rattle.sja_journal.specs.declared.entry.Entry.{Entry}
use Rattle.sja_journal.specs.declared.up.Up.{Up}
use Rattle.sja_journal.specs.declared.entry.Entry.TheVariants.{Bit, Up as Item, Abort, Stored, Overrun, Off}
use Rattle.sja_journal.specs.Places.{place_of}
use Rattle.sja_journal.specs.Parts.{part}
use Rattle.sja_journal.specs.Carried.{bits_of, bit_in}
use Rattle.sja_journal.specs.Verdicts.{filter_of, PassesAny, IsDue, entry_of}
use Rattle.lemmas.specs.Gathering.{total}
use Rattle.lemmas.proofs.Gathered.{total_append, gathered_push, gathered_append}
use Rattle.sja_journal.specs.BitEntries.{IsRead, AreRead, MayHaveItems, MayHaveAbort, abort_as, entries_of_items}
use Rattle.sja_journal.specs.BitEntries.{judged_as, off_as, HasBit, AreInOrder}
use Rattle.sja_journal.specs.OutOfOrder.{IsOutOfOrder}
use Rattle.sja_bus.specs.Inside.Following.{Follows, FollowsBit}
use Rattle.sja_bus.specs.declared.bit_outcome.BitOutcome.{BitOutcome}
use Rattle.sja_bus.specs.Inside.Turning.{BringsVerdict, Brings}
use Rattle.sja_bus.specs.Inside.BusNodes.{IsPassing, IsJudged}
use Rattle.sja_bus.proofs.Journal.BitSteps.{follows_bit, follows_stopped, follows_judged}
use Rattle.sja_journal.proofs.Growing.Items.{items_bits}

-- nothing is to be judged
pub received_quiet : (old new : Node) (j : List Entry) (x seen : Level) (e : BitEvents) (filter : Filter) (a : ℕ) →
    DrivesNext old x → Samples old new seen e → (place_of j).activation ≡ a →
    filter_of (part j a) ≡ Some filter → IsPassing filter e.received None → Follows old j →
    FollowsBit new (j ++ Bit x seen ∷ []) e.went_off
received_quiet old new j x seen e filter a drives samples at is keeps h = go e.received refl keeps
  where
    go : (o : Option FrameValue) → e.received ≡ o → IsPassing filter o None →
        FollowsBit new (j ++ Bit x seen ∷ []) e.went_off
    go None same k = follows_bit old new j x seen e drives samples same h
    go (Some f) same k =
        let P : Option Filter → Type 0 = λ o. PassesAny o f in
        follows_stopped old new j x seen e f drives samples same
        (λ passes. k (subst P (ap (λ n. filter_of (part j n)) at ∙ is) passes)) h

-- a message was judged
pub received_judged : (old new : Node) (j after : List Entry) (x seen : Level) (e : BitEvents) (filter : Filter) (a : ℕ)
    (m : List ℕ) (overrun : Bool) → DrivesNext old x → Samples old new seen e → (place_of j).activation ≡ a →
    filter_of (part j a) ≡ Some filter → IsPassing filter e.received (Some m) → IsJudged j x seen a m overrun after →
    Follows old j → FollowsBit new after e.went_off
received_judged old new j after x seen e filter a m overrun drives samples at is keeps judged h =
    go e.received refl keeps
  where
    go : (o : Option FrameValue) → e.received ≡ o → IsPassing filter o (Some m) → FollowsBit new after e.went_off
    go None same k = absurd cc
    go (Some f) same k =
        let P : Option Filter → Type 0 = λ o. PassesAny o f in
        let passes = subst P (sym (ap (λ n. filter_of (part j n)) at ∙ is)) k.0 in
        let D : ℕ → Type 0 = λ n. IsDue (part (j ++ Bit x seen ∷ []) n) (entry_of judged.verdict (message f)) in
        let due = subst D (sym at) (subst (λ (l : List ℕ). IsDue (part (j ++ Bit x seen ∷ []) a)
        (entry_of judged.verdict l)) k.1 judged.due) in
        let whole : after ≡ (j ++ Bit x seen ∷ []) ++ entry_of judged.verdict (message f) ∷ [] = judged.whole
        ∙ ap (λ l. (j ++ Bit x seen ∷ []) ++ entry_of judged.verdict l ∷ []) k.1 in
        subst (λ (l : List Entry). FollowsBit new l e.went_off) (sym whole)
        (follows_judged old new j x seen e f judged.verdict drives samples same passes due h)

-- the bits of a journal with an entry more
pub bits_bit : (j : List Entry) (x seen : Level) → bits_of (j ++ Bit x seen ∷ []) ≡ bits_of j
    ++ (record { driven = x; seen = seen }) ∷ []
bits_bit j x seen = gathered_push bit_in j (Bit x seen)

bits_none : (j more : List Entry) → bits_of more ≡ [] → bits_of (j ++ more) ≡ bits_of j
bits_none j more none = gathered_append bit_in j more ∙ ap (λ l. bits_of j ++ l) none ∙ append-nil (bits_of j)

judged_no_bit : (v : Option (Verdict × List ℕ)) → bits_of (judged_as v) ≡ []
judged_no_bit None = refl
judged_no_bit (Some (ToStore, m)) = refl
judged_no_bit (Some (ToLose, m)) = refl

off_no_bit : (off : Bool) → bits_of (off_as off) ≡ []
off_no_bit true = refl
off_no_bit false = refl

pub bits_has : (j k : List Entry) (x seen : Level) → HasBit j x seen k → bits_of k ≡ bits_of j
    ++ (record { driven = x; seen = seen }) ∷ []
bits_has j k x seen h =
    ap bits_of h.whole ∙ bits_none ((j ++ Bit x seen ∷ []) ++ judged_as h.verdict) (off_as h.off) (off_no_bit h.off)
    ∙ bits_none (j ++ Bit x seen ∷ []) (judged_as h.verdict) (judged_no_bit h.verdict) ∙ bits_bit j x seen

pub bits_items : (j k : List Entry) → MayHaveItems j k → bits_of k ≡ bits_of j
bits_items j k h = ap bits_of h.whole ∙ bits_none j (entries_of_items h.items) (items_bits h.items)

-- a bit alone, with a verdict, and with bus-off after that
pub has_alone : (j after : List Entry) (x seen : Level) (outcome : BitOutcome) → outcome.overrun ≡ false →
    after ≡ j ++ Bit x seen ∷ [] → BringsVerdict j x seen outcome after
has_alone j after x seen outcome stays e = record {
  verdict = record {
    verdict = None;
    whole = e
        ∙ sym (append-nil (j ++ Bit x seen ∷ []));
  };
  overrun_is = stays;
  received = λ none. refl;
}

-- no message of no frame
no_message : (filter : Filter) (received : Option FrameValue) (m : List ℕ) → IsPassing filter received (Some m) →
    received ≡ None → ⊥
no_message filter None m passes none = let wrong : Some m ≡ None = passes in cc
no_message filter (Some f) m passes none = cc

pub has_judged : (j after : List Entry) (x seen : Level) (a : ℕ) (m : List ℕ) (filter : Filter)
    (outcome : BitOutcome) → IsPassing filter outcome.events.received (Some m) →
    IsJudged j x seen a m outcome.overrun after → BringsVerdict j x seen outcome after
has_judged j after x seen a m filter outcome passes judged = record {
  verdict =
      record { verdict = Some (judged.verdict, m); whole = judged.whole };
  overrun_is = judged.overrun_is;
  received = λ none. absurd (no_message filter outcome.events.received m passes none);
}

pub has_on : (j after : List Entry) (x seen : Level) (outcome : BitOutcome) → outcome.events.went_off ≡ false →
    BringsVerdict j x seen outcome after → Brings j x seen outcome after
has_on j after x seen outcome on h = record {
  bit = record {
    verdict = h.verdict.verdict;
    off = false;
    whole = h.verdict.whole
        ∙ sym (append-nil ((j ++ Bit x seen ∷ []) ++ judged_as h.verdict.verdict));
  };
  off = on;
  overrun = h.overrun_is;
  received = h.received;
}

pub has_off : (j k after : List Entry) (x seen : Level) (outcome : BitOutcome) → outcome.events.went_off ≡ true →
    after ≡ k ++ Off ∷ [] → BringsVerdict j x seen outcome k → Brings j x seen outcome after
has_off j k after x seen outcome off e h = record {
  bit = record { verdict = h.verdict.verdict; off = true; whole = e ∙ ap (λ l. l ++ Off ∷ []) h.verdict.whole };
  off = off;
  overrun = h.overrun_is;
  received = h.received;
}

-- one of a node in reset
pub rest_brings : {X : Type 0} (r : Result BitOutcome X) (j after : List Entry) (x seen : Level) →
    OnOk r (after ≡ j ++ Bit x seen ∷ []) →
    IfOk r (λ outcome. (outcome.events.went_off ≡ false) × (outcome.overrun ≡ false)) →
    IfOk r (λ outcome. Brings j x seen outcome after)
rest_brings (Ok outcome) j after x seen e h =
    has_on j after x seen outcome h.0 (has_alone j after x seen outcome h.1 e)
rest_brings (Err fault) j after x seen e h = tt

-- items one after another
items_end : (items : List Up) (u : Up) → entries_of_items (items ++ u ∷ []) ≡ entries_of_items items ++ Item u ∷ []
items_end [] u = refl
items_end (v ∷ items) u = ap (λ l. Item v ∷ l) (items_end items u)

read_push : (j : List Entry) (items : List Up) (u : Up) → AreRead j items → IsRead (j ++ entries_of_items items) u →
    AreRead j (items ++ u ∷ [])
read_push j [] u h r = (subst (λ (l : List Entry). IsRead l u) (append-nil j) r, tt)
read_push j (v ∷ items) u h r = (
  h.0,
  read_push (j ++ Item v ∷ []) items u h.1 (subst (λ (l : List Entry). IsRead l u)
      (sym (append_assoc j (Item v ∷ []) (entries_of_items items))) r),
)

order_end : (j : List Entry) (items : List Up) (u : Up) → (IsOutOfOrder (j ++ entries_of_items items) u → ⊥) →
    AreInOrder j items → AreInOrder j (items ++ u ∷ [])
order_end j [] u due h = (subst (λ (l : List Entry). IsOutOfOrder l u → ⊥) (append-nil j) due, tt)
order_end j (v ∷ items) u due h = (
  h.0,
  order_end (j ++ Item v ∷ []) items u (subst (λ (l : List Entry). IsOutOfOrder l u → ⊥)
      (sym (append_assoc j (Item v ∷ []) (entries_of_items items))) due) h.1,
)

pub items_push : (j k after : List Entry) (u : Up) → after ≡ k ++ Item u ∷ [] → IsRead k u → (IsOutOfOrder k u → ⊥) →
    MayHaveItems j k → MayHaveItems j after
items_push j k after u e r due h = record {
  in_order = order_end j h.items u (subst (λ (l : List Entry). IsOutOfOrder l u → ⊥) h.whole due) h.in_order;
  items = h.items ++ u ∷ [];
  whole = e ∙ ap (λ l. l ++ Item u ∷ []) h.whole ∙ append_assoc j (entries_of_items h.items) (Item u ∷ [])
      ∙ ap (λ l. j ++ l) (sym (items_end h.items u));
  read = read_push j h.items u h.read (subst (λ (l : List Entry). IsRead l u) h.whole r);
}

abort_no_bit : (changed : Bool) → bits_of (abort_as changed) ≡ []
abort_no_bit true = refl
abort_no_bit false = refl

pub bits_abort : (j k : List Entry) → MayHaveAbort j k → bits_of k ≡ bits_of j
bits_abort j k h = ap bits_of h.whole ∙ bits_none j (abort_as h.changed) (abort_no_bit h.changed)

-- ---- of two ways to say what was taken and aborted both say whether an abort changed the node

abbrev aborts_in : Entry → ℕ
aborts_in Abort = 1
aborts_in (Bit driven seen) = 0
aborts_in (Item u) = 0
aborts_in (Stored m) = 0
aborts_in (Overrun m) = 0
aborts_in Off = 0

items_abort_none : (items : List Up) → total aborts_in (entries_of_items items) ≡ 0
items_abort_none [] = refl
items_abort_none (u ∷ items) = let rest = items_abort_none items in omega (arith, rest)

abbrev as_number : Bool → ℕ
as_number true = 1
as_number false = 0

abort_number : (changed : Bool) → total aborts_in (abort_as changed) ≡ as_number changed
abort_number true = refl
abort_number false = refl

number_once : (a b : Bool) → as_number a ≡ as_number b → a ≡ b
number_once true true e = refl
number_once true false e = absurd (omega (arith, e))
number_once false true e = absurd (omega (arith, e))
number_once false false e = refl

aborts_added : (j t k : List Entry) → MayHaveItems j t → (h : MayHaveAbort t k) →
    total aborts_in k ≡ total aborts_in j + as_number h.changed
aborts_added j t k items h =
    let a = ap (total aborts_in) h.whole ∙ total_append aborts_in t (abort_as h.changed) in
    let b = ap (total aborts_in) items.whole ∙ total_append aborts_in j (entries_of_items items.items) in
    let c = items_abort_none items.items in let d = abort_number h.changed in omega (arith, a, b, c, d)

pub changed_once : (j t u k : List Entry) → MayHaveItems j t → (h : MayHaveAbort t k) → MayHaveItems j u →
    (g : MayHaveAbort u k) → h.changed ≡ g.changed
changed_once j t u k items h others g =
    let a = aborts_added j t k items h in let b = aborts_added j u k others g in
    number_once h.changed g.changed (omega (arith, a, b))
