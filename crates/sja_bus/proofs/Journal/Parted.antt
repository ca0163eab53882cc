-- What an entry more changes of the part of a journal that is read, of bus-off and of the place.
use Rattle.std.proofs.Common.{◌≡◌, ℕ, ◌+◌, Bool, true, false, List, [], ◌∷◌, ◌++◌}
use Rattle.std.proofs.Common.{refl, sym, ap, ◌∙◌, subst, append_assoc, arith, inl, inr}
use Rattle.std.proofs.lemmas.Bool.{cases_eq}
use Rattle.can_node.specs.declared.node.Node.{Node}
use Rattle.can_node.specs.Stands.{InReset}
use Rattle.sja_journal.specs.declared.up.Up.TheVariants.{Start, Send, Stop, Credit}
use Rattle.sja_journal.specs.declared.entry.Entry.{Entry}
use Rattle.sja_journal.specs.declared.entry.Entry.TheVariants.{Bit, Up as Item, Abort, Stored, Overrun, Off}
use Rattle.sja_journal.specs.Places.{JournalPlace, first_place, past, place_of}
use Rattle.sja_journal.specs.Records.{told, record_of}
use Rattle.sja_journal.specs.Parts.{part}
use Rattle.sja_journal.specs.Free.{IsFree, credit_in, bytes_in}
use Rattle.sja_journal.proofs.JournalEntries.Entering.{place_push, record_push, part_here, part_else}
use Rattle.lemmas.proofs.Gathered.{total_push}
use Rattle.sja_journal.proofs.Ledger.Freeing.{free_push}
use Rattle.sja_journal.proofs.Ledger.Judging.{StaysIn, filter_push}
use Rattle.sja_bus.specs.declared.activity.Activity.{Activity}
use Rattle.sja_bus.specs.declared.activity.Activity.TheVariants.{Between, Running, Off as IsOff, OffAndAsked}
use Rattle.sja_journal.specs.Links.{stops_in, stops_of}
use Rattle.sja_journal.specs.OutOfOrder.{HasOff, HasAskedOff}
use Rattle.sja_bus.specs.Inside.Following.{is_on, IsActive}
use Rattle.sja_link.proofs.Growing.Ordered.{acts_in}
use Rattle.sja_bus.proofs.Journal.OnBus.{on_both}
use Rattle.sja_journal.proofs.Growing.AskingOff.{off_before, asked_before}

-- an entry that is no stop
pub stopped_same : (j : List Entry) (e : Entry) (n : ℕ) → stops_in e ≡ 0 → stops_of j ≡ n → stops_of (j ++ e ∷ []) ≡ n
stopped_same j e n none h = let t = total_push stops_in j e in omega (arith, t, none, h)

-- what is free, with an entry more that stands in the activation that is read, or in the one before
pub free_on : (j : List Entry) (e : Entry) (a n m : ℕ) → m + bytes_in e ≡ n + credit_in e →
    (bytes_in e ≡ 0) × (credit_in e ≡ 0) → IsFree (part j a) n → IsFree (part (j ++ e ∷ []) a) m
free_on j e a n m step quiet h = elim (cases_eq (past (place_of j) e).activation a) [
  | inl q ↦ subst (λ (p : List Entry). IsFree p m) (sym (part_here j e a q)) (free_push (part j a) e n m h step)
  | inr ne ↦ let same : n ≡ m = omega (arith, step, quiet.0, quiet.1) in
      subst (λ (p : List Entry). IsFree p m) (sym (part_else j e a ne)) (subst (λ (k : ℕ). IsFree (part j a) k) same h)
]

-- 1 for a stop, and for a request
abbrev pub marks_in : Entry → ℕ
marks_in (Item Stop) = 1
marks_in (Item (Send request)) = 1
marks_in (Item (Start config)) = 0
marks_in (Item (Credit n)) = 0
marks_in (Bit driven seen) = 0
marks_in Abort = 0
marks_in (Stored m) = 0
marks_in (Overrun m) = 0
marks_in Off = 0

pub no_stop : (e : Entry) → marks_in e ≡ 0 → stops_in e ≡ 0
no_stop (Item Stop) none = none
no_stop (Item (Send request)) none = refl
no_stop (Item (Start config)) none = refl
no_stop (Item (Credit n)) none = refl
no_stop (Bit driven seen) none = refl
no_stop Abort none = refl
no_stop (Stored m) none = refl
no_stop (Overrun m) none = refl
no_stop Off none = refl

pub no_mark : (e : Entry) → acts_in e ≡ 0 → marks_in e ≡ 0
no_mark (Item u) none = absurd (omega (arith, none))
no_mark (Bit driven seen) none = refl
no_mark Abort none = refl
no_mark (Stored m) none = refl
no_mark (Overrun m) none = refl
no_mark Off none = refl

pub stays_of : (e : Entry) → ((p : JournalPlace) → past p e ≡ record p { bits = (past p e).bits }) → StaysIn e
stays_of e h p = ap (λ (q : JournalPlace). q.activation) (h p)

pub off_same : (j : List Entry) (e : Entry) → ((p : JournalPlace) → past p e ≡ record p { bits = (past p e).bits }) →
    (place_of (j ++ e ∷ [])).off ≡ (place_of j).off
off_same j e h = ap (λ (p : JournalPlace). p.off) (place_push j e ∙ h (place_of j))

pub begun_same : (j : List Entry) (e : Entry) → StaysIn e →
    (place_of (j ++ e ∷ [])).activation ≡ (place_of j).activation
begun_same j e h = ap (λ (p : JournalPlace). p.activation) (place_push j e) ∙ h (place_of j)

-- the node is on the bus as it was
told_on : (off on : Bool) (e : Entry) → ((p : JournalPlace) → past p e ≡ record p { bits = (past p e).bits }) →
    stops_in e ≡ 0 → is_on on (told off e) ≡ on
told_on off on (Bit driven seen) stays none = refl
told_on off on (Item (Start config)) stays none =
    let s = stays_of (Item (Start config)) stays first_place in absurd (omega (arith, s))
told_on off on (Item (Credit n)) stays none = refl
told_on true on (Item (Send request)) stays none = refl
told_on false on (Item (Send request)) stays none = refl
told_on off on (Item Stop) stays none = absurd (omega (arith, none))
told_on off on Abort stays none = refl
told_on off on (Stored m) stays none = refl
told_on off on (Overrun m) stays none = refl
told_on off on Off stays none = let s : true ≡ false = ap (λ (p : JournalPlace). p.off) (stays first_place) in absurd cc

pub on_same : (j : List Entry) (e : Entry) → ((p : JournalPlace) → past p e ≡ record p { bits = (past p e).bits }) →
    stops_in e ≡ 0 → is_on false (record_of (j ++ e ∷ [])) ≡ is_on false (record_of j)
on_same j e stays none =
    ap (is_on false) (record_push j e) ∙ on_both false (record_of j) (told (place_of j).off e)
    ∙ told_on (place_of j).off (is_on false (record_of j)) e stays none

-- bus-off in a part that an entry more stands in, or doesn't
off_more : (j : List Entry) (e : Entry) (a : ℕ) → HasOff (part j a) → HasOff (part (j ++ e ∷ []) a)
off_more j e a h = elim (cases_eq (past (place_of j) e).activation a) [
  | inl q ↦ record {
    before = h.before;
    after = h.after ++ e ∷ [];
    whole = part_here j e a q ∙ ap (λ l. l ++ e ∷ []) h.whole ∙ append_assoc h.before (Off ∷ h.after) (e ∷ []);
  }
  | inr ne ↦ record { before = h.before; after = h.after; whole = part_else j e a ne ∙ h.whole }
]

asked_more : (j : List Entry) (e : Entry) (a : ℕ) → HasAskedOff (part j a) → HasAskedOff (part (j ++ e ∷ []) a)
asked_more j e a h = elim (cases_eq (past (place_of j) e).activation a) [
  | inl q ↦ record {
    before = h.before;
    between = h.between;
    request = h.request;
    after = h.after ++ e ∷ [];
    whole = part_here j e a q ∙ ap (λ l. l ++ e ∷ []) h.whole
        ∙ append_assoc h.before (Off ∷ (h.between ++ Item (Send h.request) ∷ h.after)) (e ∷ [])
        ∙ ap (λ l. h.before ++ Off ∷ l) (append_assoc h.between (Item (Send h.request) ∷ h.after) (e ∷ []));
  }
  | inr ne ↦ record {
    before = h.before;
    between = h.between;
    request = h.request;
    after = h.after;
    whole = part_else j e a ne ∙ h.whole;
  }
]

-- bus-off, and a request after it, that stood there before
pub off_less : (j : List Entry) (e : Entry) (a : ℕ) → ((p : JournalPlace) →
    past p e ≡ record p { bits = (past p e).bits }) →
    HasOff (part (j ++ e ∷ []) a) → HasOff (part j a)
off_less j e a stays h = elim (cases_eq (past (place_of j) e).activation a) [
  | inl q ↦ off_before (part j a) e
      (λ is. let P : Entry → Type 0 = λ x. (p : JournalPlace) → past p x ≡ record p { bits = (past p x).bits } in
      let s : true ≡ false = ap (λ (p : JournalPlace). p.off) (subst P is stays first_place) in cc)
      (subst (λ (l : List Entry). HasOff l) (part_here j e a q) h)
  | inr ne ↦ subst (λ (l : List Entry). HasOff l) (part_else j e a ne) h
]

pub asked_less : (j : List Entry) (e : Entry) (a : ℕ) → marks_in e ≡ 0 →
    HasAskedOff (part (j ++ e ∷ []) a) → HasAskedOff (part j a)
asked_less j e a none h = elim (cases_eq (past (place_of j) e).activation a) [
  | inl q ↦ asked_before (part j a) e (λ r is.
      let m : marks_in (Item (Send r)) ≡ 0 = ap marks_in (sym is) ∙ none in omega (arith, m))
      (subst (λ (l : List Entry). HasAskedOff l) (part_here j e a q) h)
  | inr ne ↦ subst (λ (l : List Entry). HasAskedOff l) (part_else j e a ne) h
]

pub active_same : (activity : Activity) (old new : Node) (j : List Entry) (e : Entry) (a : ℕ) →
    ((p : JournalPlace) → past p e ≡ record p { bits = (past p e).bits }) → marks_in e ≡ 0 →
    (InReset old → InReset new) → IsActive activity old j a → IsActive activity new (j ++ e ∷ []) a
active_same Between old new j e a stays none reset h = reset h
active_same (Running filter) old new j e a stays none reset h = (
  off_same j e stays ∙ h.0,
  filter_push j e a (stays_of e stays) ∙ h.1,
  on_same j e stays (no_stop e none) ∙ h.2,
  λ off. h.3 (off_less j e a stays off),
)
active_same IsOff old new j e a stays none reset h =
    (off_same j e stays ∙ h.0, reset h.1, off_more j e a h.2, λ asked. h.3 (asked_less j e a none asked))
active_same OffAndAsked old new j e a stays none reset h = (off_same j e stays ∙ h.0, reset h.1, asked_more j e a h.2)

-- an entry that begins no activation stands in it
pub stands_at : (j : List Entry) (e : Entry) (a : ℕ) → StaysIn e → (place_of j).activation ≡ a →
    (past (place_of j) e).activation ≡ a
stands_at j e a stays at = stays (place_of j) ∙ at

pub place_same : (j : List Entry) (e : Entry) (a : ℕ) → StaysIn e → (place_of j).activation ≡ a →
    (place_of (j ++ e ∷ [])).activation ≡ a
place_same j e a stays at = begun_same j e stays ∙ at
