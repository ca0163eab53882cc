-- Verdicts of a journal with an entry more.
use Rattle.std.proofs.Common.{◌≡◌, ℕ, ◌+◌, ◌<◌, ◌≤◌, Bool, true, false, Option, List, [], ◌∷◌, ◌++◌, refl, sym, ap}
use Rattle.std.proofs.Common.{ap₂, cond, ◌∙◌, subst, append-nil, arith, inl, inr}
use Rattle.std.specs.Prelude.{◌==◌}
use Rattle.std.proofs.lemmas.Bool.{cases_eq}
use Rattle.can_frame.specs.declared.filter.Filter.{Filter}
use Rattle.can_frame.specs.Message.{message}
use Rattle.sja_journal.specs.NodeWords.{ReceivedFrame}
use Rattle.can_node_rules.specs.declared.config.Config.{Config}
use Rattle.sja_journal.specs.declared.up.Up.TheVariants.{Start, Credit, Send, Stop}
use Rattle.sja_journal.specs.declared.verdict.Verdict.{Verdict}
use Rattle.sja_journal.specs.declared.verdict.Verdict.TheVariants.{Stored as ToStore, Overrun as ToLose}
use Rattle.sja_journal.specs.declared.entry.Entry.{Entry}
use Rattle.sja_journal.specs.declared.entry.Entry.TheVariants.{Bit, Up as Item, Abort, Stored, Overrun, Off}
use Rattle.lemmas.specs.Gathering.{gathered}
use Rattle.sja_journal.specs.Places.{JournalPlace, first_place, past, place_of, Placed, placed, activation_of}
use Rattle.sja_journal.specs.Parts.{part, in_part, of_part, entry_at}
use Rattle.sja_journal.specs.Carried.{stored_in, stored_of, put_of}
use Rattle.sja_journal.specs.Lists.{messages}
use Rattle.sja_journal.specs.Judged.{Judged, judged_after, judged_at, judged_in, kept_in, kept}
use Rattle.sja_journal.specs.Verdicts.{filter_of, PassesAny, IsAccepted, IsOn, IsDue, HasVerdicts, entry_of}
use Rattle.lemmas.specs.Picking.{Picks, EachAfter}
use Rattle.lemmas.specs.Picking.Picks.{nothing, left}
use Rattle.lemmas.proofs.Gathered.{gathered_append}
use Rattle.lemmas.proofs.Picking.{picks_push, leaves_push}
pub use Rattle.lemmas.proofs.Picking.{each_push}
use Rattle.sja_journal.proofs.JournalEntries.Entering.{of_part_here, of_part_else, of_part_none, of_part_later}
use Rattle.sja_journal.proofs.JournalEntries.Entering.{part_here, part_else}

-- ---- what is picked

-- nothing is picked where none has the property
pub data None_of {A : Type 0} (P : A → Type 0) : List A → Type 0 where
  no_more : None_of P []
  not_this : {xs : List A} (x : A) → (P x → ⊥) → None_of P xs → None_of P (x ∷ xs)

pub picks_none : {A B : Type 0} {P : A → Type 0} {R : A → B → Type 0} {xs : List A} → None_of P xs → Picks P R xs []
picks_none no_more = nothing
picks_none (not_this x h more) = left x h (picks_none more)

-- ---- the filter of a part

-- an entry that begins no activation
abbrev pub StaysIn : Entry → Type 0
StaysIn e = (p : JournalPlace) → (past p e).activation ≡ p.activation

filter_end : (p : List Entry) (e : Entry) → StaysIn e → filter_of (p ++ e ∷ []) ≡ filter_of p
filter_end [] (Item (Start config)) h = let x : 1 ≡ 0 = h first_place in absurd (omega (arith, x))
filter_end [] (Bit driven seen) h = refl
filter_end [] (Item (Credit n)) h = refl
filter_end [] (Item (Send request)) h = refl
filter_end [] (Item Stop) h = refl
filter_end [] Abort h = refl
filter_end [] (Stored m) h = refl
filter_end [] (Overrun m) h = refl
filter_end [] Off h = refl
filter_end (Item (Start config) ∷ p) e h = refl
filter_end (Bit driven seen ∷ p) e h = refl
filter_end (Item (Credit n) ∷ p) e h = refl
filter_end (Item (Send request) ∷ p) e h = refl
filter_end (Item Stop ∷ p) e h = refl
filter_end (Abort ∷ p) e h = refl
filter_end (Stored m ∷ p) e h = refl
filter_end (Overrun m ∷ p) e h = refl
filter_end (Off ∷ p) e h = refl

pub filter_push : (j : List Entry) (e : Entry) (a : ℕ) → StaysIn e →
    filter_of (part (j ++ e ∷ []) a) ≡ filter_of (part j a)
filter_push j e a s = elim (cases_eq (past (place_of j) e).activation a) [
  | inl q ↦ ap filter_of (part_here j e a q) ∙ filter_end (part j a) e s
  | inr n ↦ ap filter_of (part_else j e a n)
]

-- the same frames are kept where the filter is the same
picks_by : (j k : List Entry) (a : ℕ) (frames : List ReceivedFrame) (out : List Judged) →
    filter_of (part k a) ≡ filter_of (part j a) →
    Picks (IsAccepted a (filter_of (part j a))) IsOn frames out →
    Picks (IsAccepted a (filter_of (part k a))) IsOn frames out
picks_by j k a frames out e h = let P : Option Filter → Type 0 =
    λ f. Picks (IsAccepted a f) IsOn frames out in subst P (sym e) h

-- ---- the verdicts of a journal with an entry more

due_push : (j : List Entry) (e : Entry) → IsDue (part j (past (place_of j) e).activation) e →
    ((a : ℕ) → EachAfter IsDue [] (part j a)) →
    (a : ℕ) → EachAfter IsDue [] (part (j ++ e ∷ []) a)
due_push j e d was a = elim (cases_eq (past (place_of j) e).activation a) [
  | inl q ↦ subst (λ (p : List Entry). EachAfter IsDue [] p) (sym (part_here j e a q))
      (each_push IsDue [] (part j a) e (was a) (subst (λ (n : ℕ). IsDue (part j n) e) q d))
  | inr n ↦ subst (λ (p : List Entry). EachAfter IsDue [] p) (sym (part_else j e a n)) (was a)
]

-- an entry that is no verdict, and begins no activation
pub verdicts_quiet : (j : List Entry) (e : Entry) (frames : List ReceivedFrame) → StaysIn e →
    ((n : ℕ) → judged_after n e ≡ []) → ((before : List Entry) → IsDue before e) →
    HasVerdicts j frames → HasVerdicts (j ++ e ∷ []) frames
verdicts_quiet j e frames stays none due h = record {
  are = λ a.
      let P : List Judged → Type 0 = λ l. Picks (IsAccepted a (filter_of (part (j ++ e ∷ []) a))) IsOn frames l in
      subst P (sym (of_part_none judged_at j e a (none (place_of j).bits)))
      (picks_by j (j ++ e ∷ []) a frames (judged_in j a) (filter_push j e a stays) (h.are a));
  due = due_push j e (due (part j (past (place_of j) e).activation)) h.due;
}

-- a frame was received in an activation that has begun
abbrev pub HasBegun : ℕ → List ReceivedFrame → Type 0
HasBegun k [] = Unit {0}
HasBegun k (h ∷ frames) = (h.activation ≤ k) × HasBegun k frames

none_yet_accepted : (j : List Entry) (k a : ℕ) (frames : List ReceivedFrame) → k < a → HasBegun k frames →
    None_of (IsAccepted a (filter_of (part j a))) frames
none_yet_accepted j k a [] few begun = no_more
none_yet_accepted j k a (h ∷ frames) few begun =
    not_this h (λ kept. let x = kept.activation in let y = begun.0 in omega (arith, x, y, few))
    (none_yet_accepted j k a frames few begun.1)

-- a start
pub verdicts_start : (j : List Entry) (config : Config) (frames : List ReceivedFrame) →
    HasBegun (place_of j).activation frames →
    HasVerdicts j frames → HasVerdicts (j ++ Item (Start config) ∷ []) frames
verdicts_start j config frames begun h = let e : Entry = Item (Start config) in record {
  are = λ a.
      let P : List Judged → Type 0 = λ l. Picks (IsAccepted a (filter_of (part (j ++ e ∷ []) a))) IsOn frames l in
      let same : judged_in (j ++ e ∷ []) a ≡ judged_in j a = of_part_none judged_at j e a refl in
      elim (cases_eq ((place_of j).activation + 1) a) [
        | inl q ↦ subst P (sym (same ∙ of_part_later judged_at j a (omega (arith, q))))
            (picks_none (none_yet_accepted (j ++ e ∷ []) (place_of j).activation a frames (omega (arith, q)) begun))
        | inr n ↦ subst P (sym same) (picks_by j (j ++ e ∷ []) a frames (judged_in j a)
            (ap filter_of (part_else j e a n)) (h.are a))
      ];
  due = due_push j e (tt, tt) h.due;
}

-- a frame more was received, and doesn't pass
pub verdicts_passed_by : (j : List Entry) (frames : List ReceivedFrame) (x : ReceivedFrame) →
    (PassesAny (filter_of (part j x.activation)) x.frame → ⊥) →
    HasVerdicts j frames → HasVerdicts j (frames ++ x ∷ [])
verdicts_passed_by j frames x stops h = record {
  are = λ a. leaves_push x (λ kept. stops (subst (λ (n : ℕ). PassesAny (filter_of (part j n)) x.frame)
      (sym kept.activation) kept.passes)) (h.are a);
  due = h.due;
}

abbrev is_overrun : Verdict → Bool
is_overrun ToStore = false
is_overrun ToLose = true

-- a frame more was received, and judged
pub verdicts_judged : (j : List Entry) (frames : List ReceivedFrame) (x : ReceivedFrame) (v : Verdict) →
    x.activation ≡ (place_of j).activation → x.bits ≡ (place_of j).bits →
    PassesAny (filter_of (part j x.activation)) x.frame → IsDue (part j x.activation) (entry_of v (message x.frame)) →
    HasVerdicts j frames → HasVerdicts (j ++ entry_of v (message x.frame) ∷ []) (frames ++ x ∷ [])
verdicts_judged j frames x v here now passes due h =
    let e = entry_of v (message x.frame) in
    let stays = verdict_stays v (message x.frame) in
    let same : (past (place_of j) e).activation ≡ x.activation = stays (place_of j) ∙ sym here in record {
      are = λ a.
          let P : List Judged → Type 0 = λ l. Picks (IsAccepted a (filter_of (part (j ++ e ∷ []) a))) IsOn
          (frames ++ x ∷ []) l in
          let was = picks_by j (j ++ e ∷ []) a frames (judged_in j a) (filter_push j e a stays) (h.are a) in
          elim (cases_eq x.activation a) [
            | inl q ↦
                let filter : filter_of (part (j ++ e ∷ []) a) ≡ filter_of (part j x.activation) =
                filter_push j e a stays ∙ ap (λ n. filter_of (part j n)) (sym q) in
                let F : Option Filter → Type 0 = λ f. PassesAny f x.frame in
                let kept : IsAccepted a (filter_of (part (j ++ e ∷ []) a)) x =
                record { activation = q; passes = subst F (sym filter) passes } in
                let out : judged_in (j ++ e ∷ []) a ≡ judged_in j a
                ++ (record { bits = (place_of j).bits; bytes = message x.frame; overrun = is_overrun v }) ∷ [] =
                of_part_here judged_at j e a (same ∙ q)
                ∙ ap (λ l. judged_in j a ++ l) (verdict_judged v (message x.frame) (place_of j).bits) in
                subst P (sym out) (picks_push x _ kept (record { bits = sym now; bytes = refl }) was)
            | inr n ↦
                let out : judged_in (j ++ e ∷ []) a ≡ judged_in j a =
                of_part_else judged_at j e a (λ q. n (sym same ∙ q)) in
                subst P (sym out) (leaves_push x (λ kept. n kept.activation) was)
          ];
      due = due_push j e (subst (λ (n : ℕ). IsDue (part j n) e) (sym same) due) h.due;
    }
  where
    verdict_stays : (w : Verdict) (m : List ℕ) → StaysIn (entry_of w m)
    verdict_stays ToStore m p = refl
    verdict_stays ToLose m p = refl

    verdict_judged : (w : Verdict) (m : List ℕ) (n : ℕ) →
        judged_after n (entry_of w m) ≡ (record { bits = n; bytes = m; overrun = is_overrun w }) ∷ []
    verdict_judged ToStore m n = refl
    verdict_judged ToLose m n = refl

-- ---- what is kept is what was stored

-- what each of several entries gives, of one part
pub gathered_part : {B C : Type 0} (f : Placed → List B) (g : B → List C) (h : Placed → List C) →
    ((q : Placed) → gathered g (f q) ≡ h q) → (j : List Entry) (a : ℕ) →
    gathered g (of_part f j a) ≡ of_part h j a
gathered_part f g h same j a = over (placed j)
  where
    one : (b : Bool) (q : Placed) → gathered g (cond b (f q) []) ≡ cond b (h q) []
    one true q = same q
    one false q = refl

    over : (qs : List Placed) → gathered g (gathered (in_part f a) qs) ≡ gathered (in_part h a) qs
    over [] = refl
    over (q ∷ qs) = gathered_append g (in_part f a q) (gathered (in_part f a) qs)
        ∙ ap₂ (λ x y. x ++ y) (one (activation_of q == a) q) (over qs)

-- the messages of an activation that weren't marked overrun are those that were stored
pub kept_stored : (j : List Entry) (a : ℕ) → kept (judged_in j a) ≡ stored_of (part j a)
kept_stored j a =
    gathered_part judged_at kept_in (λ q. stored_in q.entry) (λ q. one q.before.bits q.entry) j a
    ∙ sym (gathered_part entry_at stored_in (λ q. stored_in q.entry) (λ q. append-nil (stored_in q.entry)) j a)
  where
    one : (n : ℕ) (e : Entry) → gathered kept_in (judged_after n e) ≡ stored_in e
    one n (Stored m) = refl
    one n (Overrun m) = refl
    one n (Bit driven seen) = refl
    one n (Item u) = refl
    one n Abort = refl
    one n Off = refl

-- and those that the link carried
pub put_stored : (p : List Entry) → messages (put_of p) ≡ stored_of p
put_stored [] = refl
put_stored (Stored m ∷ p) = ap (λ l. m ∷ l) (put_stored p)
put_stored (Off ∷ p) = put_stored p
put_stored (Overrun m ∷ p) = put_stored p
put_stored (Bit driven seen ∷ p) = put_stored p
put_stored (Item u ∷ p) = put_stored p
put_stored (Abort ∷ p) = put_stored p
