-- A journal with an entry more.
use Rattle.std.proofs.Common.{◌≡◌, ℕ, ◌+◌, ◌<◌, ◌≤◌, Bool, true, false, List, [], ◌∷◌, ◌++◌, length, refl, ap, ◌∙◌}
use Rattle.std.proofs.Common.{append-nil, arith, inl, inr, cond, zero-add}
use Rattle.std.specs.Prelude.{◌==◌}
use Rattle.std.proofs.lemmas.Bool.{cases_eq, eq-eqb, ne_eqb}
use Rattle.sja_journal.specs.NodeWords.{Count, none_yet, counted}
use Rattle.can_node_rules.proofs.OneCut.GoOn.{counted_both}
use Rattle.sja_journal.specs.declared.down.Down.TheVariants.{Message, Off as OffDown}
use Rattle.sja_journal.specs.declared.up.Up.{Up}
use Rattle.sja_journal.specs.declared.up.Up.TheVariants.{Start, Credit, Send, Stop}
use Rattle.sja_journal.specs.declared.entry.Entry.{Entry}
use Rattle.sja_journal.specs.declared.entry.Entry.TheVariants.{Bit, Up as Item, Abort, Stored, Overrun, Off}
use Rattle.sja_journal.specs.Lists.{Lists}
use Rattle.lemmas.specs.Gathering.{gathered}
use Rattle.sja_journal.specs.Places.{JournalPlace, first_place, past, past_all, place_of, Placed, placed_from, placed}
use Rattle.sja_journal.specs.Parts.{in_part, of_part, entry_at, part}
use Rattle.sja_journal.specs.Carried.{bits_of, taken_in, put_in, taken_of, put_of}
use Rattle.sja_journal.specs.Accounts.{Account, account, with_entry}
use Rattle.sja_journal.specs.Records.{told, told_at, record_of}
use Rattle.lemmas.proofs.Gathered.{gathered_push}

-- ---- places

pub past_push : (p : JournalPlace) (es : List Entry) (e : Entry) → past_all p (es ++ e ∷ []) ≡ past (past_all p es) e
past_push p [] e = refl
past_push p (x ∷ es) e = past_push (past p x) es e

pub place_push : (j : List Entry) (e : Entry) → place_of (j ++ e ∷ []) ≡ past (place_of j) e
place_push j e = past_push first_place j e

-- past an entry neither the activation nor the number of bits falls
pub record Rises (p q : JournalPlace) : Type 0 where
  pub activation : p.activation ≤ q.activation
  pub bits : p.bits ≤ q.bits

pub past_rises : (p : JournalPlace) (e : Entry) → Rises p (past p e)
past_rises p (Bit driven seen) = record { activation = omega arith; bits = omega arith }
past_rises p (Item (Start config)) = record { activation = omega arith; bits = omega arith }
past_rises p (Item (Credit n)) = record { activation = omega arith; bits = omega arith }
past_rises p (Item (Send request)) = record { activation = omega arith; bits = omega arith }
past_rises p (Item Stop) = record { activation = omega arith; bits = omega arith }
past_rises p Abort = record { activation = omega arith; bits = omega arith }
past_rises p (Stored m) = record { activation = omega arith; bits = omega arith }
past_rises p (Overrun m) = record { activation = omega arith; bits = omega arith }
past_rises p Off = record { activation = omega arith; bits = omega arith }

pub all_rise : (p : JournalPlace) (es : List Entry) → Rises p (past_all p es)
all_rise p [] = record { activation = omega arith; bits = omega arith }
all_rise p (e ∷ es) =
    let x = past_rises p e in
    let y = all_rise (past p e) es in
    record { activation = omega (arith, x, y); bits = omega (arith, x, y) }

-- an item is no bit
pub item_bits : (p : JournalPlace) (u : Up) → (past p (Item u)).bits ≡ p.bits
item_bits p (Start config) = refl
item_bits p (Credit n) = refl
item_bits p (Send request) = refl
item_bits p Stop = refl

pub placed_append : (p : JournalPlace) (es fs : List Entry) →
    placed_from p (es ++ fs) ≡ placed_from p es ++ placed_from (past_all p es) fs
placed_append p [] fs = refl
placed_append p (e ∷ es) fs = ap (λ l. (record { before = p; entry = e }) ∷ l) (placed_append (past p e) es fs)

-- an entry at the end of a journal
abbrev pub last_of : List Entry → Entry → Placed
last_of j e = record { before = place_of j; entry = e }

pub placed_end : {B : Type 0} (f : Placed → List B) (j : List Entry) (e : Entry) →
    gathered f (placed (j ++ e ∷ [])) ≡ gathered f (placed j) ++ f (last_of j e)
placed_end f j e = ap (gathered f) (placed_append first_place j (e ∷ [])) ∙ gathered_push f (placed j) (last_of j e)

-- an entry stands in one activation, and in no other
pub of_part_here : {B : Type 0} (f : Placed → List B) (j : List Entry) (e : Entry) (a : ℕ) →
    (past (place_of j) e).activation ≡ a →
    of_part f (j ++ e ∷ []) a ≡ of_part f j a ++ f (last_of j e)
of_part_here f j e a h = placed_end (in_part f a) j e ∙ ap
    (λ b. of_part f j a ++ cond b (f (last_of j e)) []) (eq-eqb _ _ h)

pub of_part_else : {B : Type 0} (f : Placed → List B) (j : List Entry) (e : Entry) (a : ℕ) →
    ((past (place_of j) e).activation ≡ a → ⊥) →
    of_part f (j ++ e ∷ []) a ≡ of_part f j a
of_part_else f j e a h =
    placed_end (in_part f a) j e ∙ ap (λ b. of_part f j a ++ cond b (f (last_of j e)) []) (ne_eqb _ _ h)
    ∙ append-nil (of_part f j a)

-- one that gives nothing changes nothing
pub of_part_none : {B : Type 0} (f : Placed → List B) (j : List Entry) (e : Entry) (a : ℕ) → f (last_of j e) ≡ [] →
    of_part f (j ++ e ∷ []) a ≡ of_part f j a
of_part_none f j e a h = elim (cases_eq (past (place_of j) e).activation a) [
  | inl q ↦ of_part_here f j e a q ∙ ap (λ l. of_part f j a ++ l) h ∙ append-nil (of_part f j a)
  | inr n ↦ of_part_else f j e a n
]

pub part_here : (j : List Entry) (e : Entry) (a : ℕ) → (past (place_of j) e).activation ≡ a →
    part (j ++ e ∷ []) a ≡ part j a ++ e ∷ []
part_here j e a h = of_part_here entry_at j e a h

pub part_else : (j : List Entry) (e : Entry) (a : ℕ) → ((past (place_of j) e).activation ≡ a → ⊥) →
    part (j ++ e ∷ []) a ≡ part j a
part_else j e a h = of_part_else entry_at j e a h

-- of an activation that hasn't begun there is nothing
none_later : {B : Type 0} (f : Placed → List B) (p : JournalPlace) (es : List Entry) (a : ℕ) →
    (past_all p es).activation < a → gathered (in_part f a) (placed_from p es) ≡ []
none_later f p [] a h = refl
none_later f p (e ∷ es) a h =
    let few = all_rise (past p e) es in
    let t : ((past p e).activation == a) ≡ false = ne_eqb (past p e).activation a (λ q. omega (arith, h, few, q)) in
    rw t (none_later f (past p e) es a h)

pub of_part_later : {B : Type 0} (f : Placed → List B) (j : List Entry) (a : ℕ) →
    (place_of j).activation < a → of_part f j a ≡ []
of_part_later f j a h = none_later f first_place j a h

-- ---- the record

pub record_push : (j : List Entry) (e : Entry) → record_of (j ++ e ∷ []) ≡ record_of j ++ told (place_of j).off e
record_push j e = placed_end told_at j e

-- the record counts as the journal does
abbrev count_of : JournalPlace → Count
count_of p = record { starts = p.activation; bits = p.bits }

one_counted : (p : JournalPlace) (off : Bool) (e : Entry) → counted (count_of p) (told off e) ≡ count_of (past p e)
one_counted p off (Bit driven seen) = refl
one_counted p off (Item (Start config)) = refl
one_counted p off (Item (Credit n)) = refl
one_counted p true (Item (Send request)) = refl
one_counted p false (Item (Send request)) = refl
one_counted p off (Item Stop) = refl
one_counted p off Abort = refl
one_counted p off (Stored m) = refl
one_counted p off (Overrun m) = refl
one_counted p off Off = refl

all_counted : (p : JournalPlace) (es : List Entry) → counted (count_of p)
    (gathered told_at (placed_from p es)) ≡ count_of (past_all p es)
all_counted p [] = refl
all_counted p (e ∷ es) =
    counted_both (count_of p) (told p.off e) (gathered told_at (placed_from (past p e) es))
    ∙ ap (λ k. counted k (gathered told_at (placed_from (past p e) es))) (one_counted p p.off e)
    ∙ all_counted (past p e) es

pub record_counted : (j : List Entry) → counted none_yet
    (record_of j) ≡ record { starts = (place_of j).activation; bits = (place_of j).bits }
record_counted j = all_counted first_place j

-- ---- the bits

bits_from : (p : JournalPlace) (es : List Entry) → (past_all p es).bits ≡ p.bits + length (bits_of es)
bits_from p [] = omega arith
bits_from p (Bit driven seen ∷ es) = let h = bits_from (past p (Bit driven seen)) es in omega (arith, h)
bits_from p (Item (Start config) ∷ es) = bits_from (past p (Item (Start config))) es
bits_from p (Item (Credit n) ∷ es) = bits_from p es
bits_from p (Item (Send request) ∷ es) = bits_from p es
bits_from p (Item Stop ∷ es) = bits_from p es
bits_from p (Abort ∷ es) = bits_from p es
bits_from p (Stored m ∷ es) = bits_from p es
bits_from p (Overrun m ∷ es) = bits_from p es
bits_from p (Off ∷ es) = bits_from (past p Off) es

pub bits_counted : (j : List Entry) → (place_of j).bits ≡ length (bits_of j)
bits_counted j = bits_from first_place j ∙ zero-add (length (bits_of j))

-- ---- links

lists_same : (l : Lists) → (record l { put = l.put ++ []; taken = l.taken ++ [] }) ≡ l
lists_same l = ap (λ x. let k : Lists = record {
  put = x;
  taken = l.taken ++ [];
  got = l.got;
  given =
      l.given;
} in k) (append-nil l.put)
    ∙ ap (λ x. let k : Lists = record { put = l.put; taken = x; got = l.got; given = l.given } in
    k) (append-nil l.taken)

entry_adds : (l : Lists) (e : Entry) → (record l {
  put = l.put ++ put_in e;
  taken = l.taken
      ++ taken_in e;
}) ≡ with_entry l e
entry_adds l (Item u) = ap (λ x. let k : Lists = record {
  put = x;
  taken = l.taken ++ u ∷ [];
  got = l.got;
  given =
      l.given;
} in k) (append-nil l.put)
entry_adds l (Stored m) = ap (λ x. let k : Lists = record {
  put = l.put ++ Message m ∷ [];
  taken = x;
  got = l.got;
  given = l.given;
} in k) (append-nil l.taken)
entry_adds l Off = ap (λ x. let k : Lists = record {
  put = l.put ++ OffDown ∷ [];
  taken = x;
  got = l.got;
  given =
      l.given;
} in k) (append-nil l.taken)
entry_adds l (Bit driven seen) = lists_same l
entry_adds l Abort = lists_same l
entry_adds l (Overrun m) = lists_same l

-- an entry of this activation puts and takes
pub account_here : (j : List Entry) (e : Entry) (a : ℕ) (h : Account) → (past (place_of j) e).activation ≡ a →
    account (j ++ e ∷ []) a h ≡ with_entry (account j a h) e
account_here j e a h q =
    let p : part (j ++ e ∷ []) a ≡ part j a ++ e ∷ [] = part_here j e a q in
    let puts : put_of (part (j ++ e ∷ []) a) ≡ put_of (part j a) ++ put_in e = ap put_of p
    ∙ gathered_push put_in (part j a) e in
    let takes : taken_of (part (j ++ e ∷ []) a) ≡ taken_of (part j a) ++ taken_in e = ap taken_of p
    ∙ gathered_push taken_in (part j a) e in
    ap (λ x. let l : Lists = record {
      put = x;
      taken = taken_of (part (j ++ e ∷ []) a);
      got = h.got;
      given = h.given;
    } in l) puts
    ∙ ap (λ x. let l : Lists = record {
      put = put_of (part j a) ++ put_in e;
      taken = x;
      got = h.got;
      given = h.given;
    } in l) takes
    ∙ entry_adds (account j a h) e

-- of any other activation the lists stay
pub account_else : (j : List Entry) (e : Entry) (a : ℕ) (h : Account) → ((past (place_of j) e).activation ≡ a → ⊥) →
    account (j ++ e ∷ []) a h ≡ account j a h
account_else j e a h n = ap (λ p. let l : Lists = record {
  put = put_of p;
  taken = taken_of p;
  got = h.got;
  given =
      h.given;
} in l) (part_else j e a n)
