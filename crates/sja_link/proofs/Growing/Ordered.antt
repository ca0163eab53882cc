-- The order of what the bus enters, with an entry more.
use Rattle.std.proofs.Common.{◌≡◌, ℕ, ◌+◌, ◌≤◌, List, [], ◌∷◌, ◌++◌, refl, sym, ap, ◌∙◌, subst, arith, inl, inr}
use Rattle.std.proofs.lemmas.Bool.{cases_eq}
use Rattle.sja_journal.specs.declared.up.Up.TheVariants.{Start, Credit, Send, Stop}
use Rattle.sja_journal.specs.declared.entry.Entry.{Entry}
use Rattle.sja_journal.specs.declared.entry.Entry.TheVariants.{Bit, Up as Item, Abort, Stored, Overrun, Off}
use Rattle.sja_journal.specs.Carried.{put_of, taken_in, taken_of}
use Rattle.sja_journal.specs.Free.{IsFree, credit_in, bytes_in}
use Rattle.lemmas.specs.Gathering.{total}
use Rattle.sja_journal.specs.Parts.{part}
use Rattle.lemmas.specs.Picking.{EachAfter}
use Rattle.sja_journal.specs.Places.{past, place_of}
use Rattle.sja_link.specs.World.{is_off, is_start, is_stop}
use Rattle.lemmas.proofs.Gathered.{gathered_push, total_append, total_push}
use Rattle.sja_journal.proofs.JournalEntries.Entering.{part_here, part_else}
use Rattle.lemmas.proofs.Picking.{each_push}
use Rattle.sja_journal.proofs.JournalEntries.Openings.{part_opens}
use Rattle.sja_journal.specs.Links.{stops_in}
use Rattle.sja_journal.specs.OutOfOrder.{HasOff}
use Rattle.sja_link.specs.Orderly.{IsRunning, IsOrderly, AreOrderly}

-- an entry more of this activation
pub orderly_here : (j : List Entry) (e : Entry) (a : ℕ) → AreOrderly j → (past (place_of j) e).activation ≡ a →
    IsOrderly (part j a) e → AreOrderly (j ++ e ∷ [])
orderly_here j e a all at due b = elim (cases_eq (past (place_of j) e).activation b) [
  | inl q ↦
      let here : IsOrderly (part j b) e = subst (λ (n : ℕ). IsOrderly (part j n) e) (sym at ∙ q) due in
      subst (λ (l : List Entry). EachAfter IsOrderly [] l) (sym (part_here j e b q))
      (each_push IsOrderly [] (part j b) e (all b) here)
  | inr ne ↦ subst (λ (l : List Entry). EachAfter IsOrderly [] l) (sym (part_else j e b ne)) (all b)
]

-- 1 for what is taken or put
abbrev pub acts_in : Entry → ℕ
acts_in (Item u) = 1
acts_in (Stored m) = 1
acts_in Off = 1
acts_in (Bit driven seen) = 0
acts_in Abort = 0
acts_in (Overrun m) = 0

pub quiet_orderly : (p : List Entry) (e : Entry) → acts_in e ≡ 0 → IsOrderly p e
quiet_orderly p (Bit driven seen) none = tt
quiet_orderly p Abort none = tt
quiet_orderly p (Overrun m) none = tt
quiet_orderly p (Item u) none = absurd (omega (arith, none))
quiet_orderly p (Stored m) none = absurd (omega (arith, none))
quiet_orderly p Off none = absurd (omega (arith, none))

-- ---- no stop was taken

no_stop_taken : (e : Entry) → stops_in e ≡ 0 → total is_stop (taken_in e) ≡ 0
no_stop_taken (Item Stop) none = absurd (omega (arith, none))
no_stop_taken (Item (Start config)) none = refl
no_stop_taken (Item (Credit n)) none = refl
no_stop_taken (Item (Send request)) none = refl
no_stop_taken (Bit driven seen) none = refl
no_stop_taken Abort none = refl
no_stop_taken (Stored m) none = refl
no_stop_taken (Overrun m) none = refl
no_stop_taken Off none = refl

pub stopless_with : (j : List Entry) (e : Entry) (a : ℕ) → stops_in e ≡ 0 → total is_stop (taken_of (part j a)) ≡ 0 →
    total is_stop (taken_of (part (j ++ e ∷ []) a)) ≡ 0
stopless_with j e a none was = elim (cases_eq (past (place_of j) e).activation a) [
  | inl q ↦
      let whole = ap (λ (l : List Entry). total is_stop (taken_of l)) (part_here j e a q)
      ∙ ap (total is_stop) (gathered_push taken_in (part j a) e) in
      let sum = total_append is_stop (taken_of (part j a)) (taken_in e) in
      let last = no_stop_taken e none in omega (arith, whole, sum, last, was)
  | inr ne ↦ ap (λ (l : List Entry). total is_stop (taken_of l)) (part_else j e a ne) ∙ was
]

-- an activation that has begun, and wasn't stopped, runs
pub runs_now : (j : List Entry) (a : ℕ) → 1 ≤ a → a ≤ (place_of j).activation →
    total is_stop (taken_of (part j a)) ≡ 0 → IsRunning (part j a)
runs_now j a some begun stopless =
    let o = part_opens j a some begun in record {
      started = λ none.
          let first = ap (λ (l : List Entry). total is_start (taken_of l)) o.opens in omega (arith, none, first);
      running = stopless;
    }

-- ---- no bus-off was put

none_later : (e : Entry) (p : List Entry) → (HasOff (e ∷ p) → ⊥) → HasOff p → ⊥
none_later e p on off =
    on (record { before = e ∷ off.before; after = off.after; whole = ap (λ (l : List Entry). e ∷ l) off.whole })

pub no_off_put : (p : List Entry) → (HasOff p → ⊥) → total is_off (put_of p) ≡ 0
no_off_put [] on = refl
no_off_put (Off ∷ p) on = absurd (on (record { before = []; after = p; whole = refl }))
no_off_put (Stored m ∷ p) on = let e = no_off_put p (none_later (Stored m) p on) in omega (arith, e)
no_off_put (Overrun m ∷ p) on = no_off_put p (none_later (Overrun m) p on)
no_off_put (Bit driven seen ∷ p) on = no_off_put p (none_later (Bit driven seen) p on)
no_off_put (Item u ∷ p) on = no_off_put p (none_later (Item u) p on)
no_off_put (Abort ∷ p) on = no_off_put p (none_later Abort p on)

-- ---- a credit is of bytes that were stored, where at most 64 are free with it

pub paid_now : (p : List Entry) (n left : ℕ) → left ≤ 64 → IsFree (p ++ Item (Credit n) ∷ []) left →
    total credit_in p + n ≤ total bytes_in p
paid_now p n left few free =
    let b = total_push bytes_in p (Item (Credit n)) in let c = total_push credit_in p (Item (Credit n)) in
    omega (arith, few, free, b, c)
