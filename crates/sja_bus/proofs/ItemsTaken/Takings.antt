-- An item that the bus takes, or doesn't.
use Rattle.std.proofs.Common.{◌≡◌, ℕ, suc, ◌+◌, ◌<◌, ◌≤◌, true, false, List, [], ◌∷◌, ◌++◌, inl, inr, refl, sym}
use Rattle.std.proofs.Common.{ap, ◌∙◌, subst, arith}
use Rattle.std.proofs.lemmas.List.{length-append}
use Rattle.std.specs.Prelude.{Result, Ok, Err, OnOk, IfErr}
use Rattle.can_node.specs.declared.node.Node.{Node}
use Rattle.can_node_rules.specs.declared.request.Request.{Request}
use Rattle.can_node_rules.specs.Context.{ContextValue, is_held}
use Rattle.can_node_rules.specs.FinishedPieces.{FinishedPiece}
use Rattle.can_node_rules.specs.Cut.{IsCut}
use Rattle.can_node_rules.specs.NextBit.{now_in}
use Rattle.can_node.specs.Stands.{Requests}
use Rattle.sja_journal.specs.declared.up.Up.{Up}
use Rattle.sja_journal.specs.declared.up.Up.TheVariants.{Start, Credit, Send, Stop}
use Rattle.sja_journal.specs.declared.entry.Entry.{Entry}
use Rattle.sja_journal.specs.Free.{IsFree, credit_in, bytes_in}
use Rattle.sja_link.specs.BusLedgers.{link_of}
use Rattle.sja_journal.specs.Parts.{part, entry_at}
use Rattle.sja_journal.specs.Records.{record_of}
use Rattle.sja_journal.specs.Links.{stops_in, stops_of}
use Rattle.sja_journal.specs.Written.{Room, Written, Fits, IsFullFor}
use Rattle.sja_journal.proofs.JournalEntries.Entering.{of_part_later}
use Rattle.lemmas.proofs.Gathered.{total_few, total_push}
use Rattle.sja_bus.specs.declared.activity.Activity.{Activity}
use Rattle.sja_bus.specs.declared.activity.Activity.TheVariants.{Between, Running, Off, OffAndAsked}
use Rattle.sja_journal.specs.declared.entry.Entry.TheVariants.{Bit, Up as Item, Abort, Stored, Overrun, Off as OffEntry}
use Rattle.sja_journal.specs.Places.{past, place_of}
use Rattle.sja_journal.specs.declared.bus_fault.BusFault.{BusFault}
use Rattle.sja_journal.specs.declared.bus_fault.BusFault.TheVariants.{JournalFull}
use Rattle.sja_bus.specs.declared.bus_node.BusNode.{BusNode}
use Rattle.sja_journal.specs.OutOfOrder.{HasAskedOff, IsOutOfOrder, IsAskedWrongly, MayCome}
use Rattle.sja_journal.specs.OutOfOrder.IsAskedWrongly.{outside, while_held, again_off}
use Rattle.sja_bus.specs.Inside.Following.{Follows, Reads, open_in, is_on}
use Rattle.sja_bus.specs.Inside.BusNodes.{IsSound, IsBusNode, Pays}
use Rattle.sja_bus.specs.Inside.Taking.{Takes, Refuses, IsFull}
use Rattle.can_node_rules.proofs.OneCut.SameCuts.{same_now}
use Rattle.sja_bus.proofs.Journal.OnBus.{cut_away}
use Rattle.sja_bus.proofs.Links.BusNodeParts.{open_by, bus_node_stays}

-- a bus node with another journal that has as many reserved entries
pub bus_node_entered : (s new : BusNode) → new ≡ record s { journal = new.journal } →
    new.journal.room ≡ s.journal.room →
    IsBusNode s → IsBusNode new
bus_node_entered s new same room h =
    bus_node_stays s new (ap (λ (x : BusNode). (link_of x.ledger).activation) same) (ap (λ (x : BusNode). x.ended)
    same) room h

-- a stop more is no more than the journal has reserved entries
pub stop_fits : (room : Room) (j : List Entry) (ended : ℕ) → stops_of j ≡ ended →
    Fits room (j ++ Item Stop ∷ []) → ended + 1 ≤ room.all
stop_fits room j ended stopped fits =
    let few = total_few stops_in one_at_most j in let l = length-append j (Item Stop ∷ []) in
    let all = fits.all in omega (arith, few, l, all, stopped)
  where
    one_at_most : (e : Entry) → stops_in e ≤ 1
    one_at_most (Item Stop) = omega arith
    one_at_most (Item (Start config)) = omega arith
    one_at_most (Item (Credit n)) = omega arith
    one_at_most (Item (Send request)) = omega arith
    one_at_most (Bit driven seen) = omega arith
    one_at_most Abort = omega arith
    one_at_most (Stored m) = omega arith
    one_at_most (Overrun m) = omega arith
    one_at_most OffEntry = omega arith

-- the entry was written
pub takes_entered : {A X P : Type 0} (r : Result A X) (old new : BusNode) (item : Up) →
    (IsOutOfOrder old.journal.entries item → ⊥) → OnOk r P → (P → IsSound new) →
    (Fits old.journal.room (old.journal.entries ++ Item item ∷ []) → IsBusNode new) →
    (past (place_of old.journal.entries) (Item item)).activation ≡ suc old.ended →
    OnOk r ((new.journal.entries ≡ old.journal.entries ++ Item item ∷ [])
    × Fits old.journal.room (old.journal.entries ++ Item item ∷ [])) →
    OnOk r (Takes old new item)
takes_entered (Ok a) old new item due p f bus_node at ok = record {
  due = due;
  sound = f p;
  bus_node = bus_node ok.1;
  fits = ok.1;
  stands = at;
  entered = ok.0;
}
takes_entered (Err x) old new item due p f bus_node at ok = tt

-- no credit is taken between two activations, where all 64 bytes are free
pub credit_open : (activity : Activity) (node : Node) (j : List Entry) (ended free left n : ℕ) → left ≤ 64 → 3 ≤ n →
    Pays free left (Item (Credit n)) → Reads node j ended activity free → open_in activity ≡ 1
credit_open Between node j ended free left n few some pays h =
    let b = h.begun in
    let later : (place_of j).activation < suc ended = omega (arith, b) in
    let none : part j (suc ended) ≡ [] = of_part_later entry_at j (suc ended) later in
    let all : IsFree [] free = subst (λ (p : List Entry). IsFree p free) none h.free_is in
    let paid = pays [] all in absurd (omega (arith, paid, few, some))
credit_open (Running filter) node j ended free left n few some pays h = refl
credit_open Off node j ended free left n few some pays h = refl
credit_open OffAndAsked node j ended free left n few some pays h = refl

-- a request that the node took, and one that was dropped, may come there
pub taken_right : (old new : Node) (j : List Entry) (ended free : ℕ) (filter : _) (request : Request) → Follows old j →
    Requests old new request (Ok tt) →
    Reads old j ended (Running filter) free → IsAskedWrongly j → ⊥
taken_right old new j ended free filter request follows took h (outside between) = let b = h.begun in let s =
    h.stopped in omega (arith, b, s, between)
taken_right old new j ended free filter request follows took h (while_held opened on held) =
    let none = (took.1 (record_of j) follows.found follows.stands).1 in
    let yes = held follows.found follows.stands.cut in
    let e : false ≡ true = sym (ap is_held none) ∙ yes in cc
taken_right old new j ended free filter request follows took h (again_off opened off asked) = let e : true ≡ false =
    sym off ∙ h.active.0 in cc

pub dropped_right : (node : Node) (j : List Entry) (ended free : ℕ) → Reads node j ended Off free → IsAskedWrongly j → ⊥
dropped_right node j ended free h (outside between) = let b = h.begun in let s = h.stopped in
    omega (arith, b, s, between)
dropped_right node j ended free h (while_held opened on held) = let e : true ≡ false = sym h.active.0 ∙ on in cc
dropped_right node j ended free h (again_off opened off asked) = let P : ℕ → Type 0 =
    λ n. HasAskedOff (part j (suc n)) in h.active.3 (subst P h.stopped asked)

-- a credit that the ledger counted is good: it is of 3 to 13 bytes, and no more than 64 are free with it
pub credit_good : (activity : Activity) (node : Node) (j : List Entry) (ended free left n : ℕ) → left ≤ 64 → 3 ≤ n →
    n ≤ 13 → Pays free left (Item (Credit n)) → Reads node j ended activity free → MayCome j (Credit n)
credit_good activity node j ended free left n few some most pays h = record {
  in_order = λ never. never;
  good = λ bytes is bad.
      let same : n ≡ bytes = cc in
      let p = part j (suc ended) in
      let paid = pays p h.free_is in let c = total_push credit_in p (Item (Credit n)) in
      let b = total_push bytes_in p (Item (Credit n)) in let was = h.free_is in
      let P : ℕ → Type 0 = λ k. IsFree (part j (suc k)) bad.free in
      let free_then : IsFree p bad.free = subst P h.stopped bad.is_free in
      elim bad.bad [
        | inl short ↦ omega (arith, short, same, some)
        | inr (inl long) ↦ omega (arith, long, same, most)
        | inr (inr much) ↦ omega (arith, much, same, few, paid, c, b, free_then)
      ];
}

-- an item of another kind
pub may_come : (j : List Entry) (item : Up) → (IsOutOfOrder j item → ⊥) → ((bytes : ℕ) → item ≡ Credit bytes → ⊥) →
    MayCome j item
may_come j item due other = record { in_order = due; good = λ bytes is bad. other bytes is }

-- ---- one that isn't

-- its entry found no room, where it may come there
pub refused_full : {A : Type 0} (r : Result A BusFault) (old mid new : BusNode) (item : Up) →
    (link_of mid.ledger).node ≡ (link_of old.ledger).node → mid.journal ≡ old.journal →
    MayCome old.journal.entries item →
    IfErr r (λ f. IsFull mid new (Item item) f) → IfErr r (λ f. Refuses old new item f)
refused_full (Ok a) old mid new item node journal due full = tt
refused_full (Err f) old mid new item node journal due full =
    let P : BusFault → Type 0 = λ x. Refuses old new item x in
    let R : Written → Type 0 = λ w. IsFullFor w.room w.entries (Item item) in
    subst P (sym (full.is ∙ ap (λ k. JournalFull k) node))
    (full.same ∙ ap (λ (w : Written). w.entries) journal, (refl, subst R journal full.full, due))

-- a node that is on the bus gave a request back: by every cut it holds one
pub held_by : (old new : Node) (j : List Entry) (request back : Request) → is_on false (record_of j) ≡ true →
    Follows old j → Requests old new request (Err back) →
    (found : List FinishedPiece) (cut : IsCut (record_of j) found) → is_held (now_in cut).held ≡ true
held_by old new j request back on follows refused found cut =
    elim (refused.2 (record_of j) follows.found follows.stands) [
      | inl reset ↦ absurd (cut_away (record_of j) follows.found follows.stands.cut on reset)
      | inr held ↦ ap (λ (c : ContextValue). is_held c.held)
          (same_now (record_of j) found follows.found cut follows.stands.cut) ∙ held
    ]

-- the bus node runs in an open activation
pub held_wrongly : (old new : Node) (j : List Entry) (ended free : ℕ) (filter : _) (request back : Request) →
    Follows old j → Requests old new request (Err back) →
    Reads old j ended (Running filter) free → IsAskedWrongly j
held_wrongly old new j ended free filter request back follows refused h =
    while_held (open_by (Running filter) old j ended free refl h) h.active.0
    (held_by old new j request back h.active.2 follows refused)
