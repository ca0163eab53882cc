-- Entries that the bus makes of its own accord, and not since an item was taken.
use Rattle.std.proofs.Common.{◌≡◌, ℕ, ◌<◌, List, [], ◌∷◌, ◌++◌, map, refl, sym, ap, ◌∙◌, subst, append_assoc}
use Rattle.std.proofs.Common.{append-nil, arith}
use Rattle.sja_journal.specs.declared.entry.Entry.{Entry}
use Rattle.sja_journal.specs.declared.entry.Entry.TheVariants.{Bit, Up as Item, Abort, Stored, Overrun, Off}
use Rattle.lemmas.specs.Gathering.{total}
use Rattle.sja_journal.specs.Places.{JournalPlace, past, place_of}
use Rattle.sja_journal.specs.Parts.{part}
use Rattle.sja_journal.specs.Carried.{taken_in, taken_of}
use Rattle.sja_link.specs.World.{is_send}
use Rattle.sja_journal.proofs.JournalEntries.Entering.{place_push, past_rises, of_part_none, part_here}
use Rattle.lemmas.proofs.Gathered.{total_push}
use Rattle.sja_journal.specs.Links.{stops_in, stops_of}
use Rattle.sja_driver.specs.Aborting.{sends_taken}
use Rattle.sja_driver.specs.Timing.{taken_when, timed}
use Rattle.sja_driver.specs.Windows.{put_by}
use Rattle.sja_driver.proofs.Trace.Timings.{put_later, taken_same}

abbrev pub IsOwn : Entry → Type 0
IsOwn (Item u) = ⊥
IsOwn (Bit driven seen) = Unit {0}
IsOwn Abort = Unit {0}
IsOwn (Stored m) = Unit {0}
IsOwn (Overrun m) = Unit {0}
IsOwn Off = Unit {0}

abbrev pub AreOwn : List Entry → Type 0
AreOwn [] = Unit {0}
AreOwn (e ∷ es) = IsOwn e × AreOwn es

-- what each such entry keeps they all keep
pub own_all : (P : List Entry → Type 0) → ((j : List Entry) (e : Entry) → IsOwn e → P j → P (j ++ e ∷ [])) →
    (j es : List Entry) → AreOwn es → P j → P (j ++ es)
own_all P f j [] o h = subst P (sym (append-nil j)) h
own_all P f j (e ∷ es) o h = subst P (append_assoc j (e ∷ []) es) (own_all P f (j ++ e ∷ []) es o.1 (f j e o.0 h))

-- ---- one entry

own_begins : (p : JournalPlace) (e : Entry) → IsOwn e → (past p e).activation ≡ p.activation
own_begins p (Item u) o = elim o [ ]
own_begins p (Bit driven seen) o = refl
own_begins p Abort o = refl
own_begins p (Stored m) o = refl
own_begins p (Overrun m) o = refl
own_begins p Off o = refl

own_stops : (e : Entry) → IsOwn e → stops_in e ≡ 0
own_stops (Item u) o = elim o [ ]
own_stops (Bit driven seen) o = refl
own_stops Abort o = refl
own_stops (Stored m) o = refl
own_stops (Overrun m) o = refl
own_stops Off o = refl

own_takes : (e : Entry) → IsOwn e → taken_in e ≡ []
own_takes (Item u) o = elim o [ ]
own_takes (Bit driven seen) o = refl
own_takes Abort o = refl
own_takes (Stored m) o = refl
own_takes (Overrun m) o = refl
own_takes Off o = refl

-- ---- many

pub own_activation : (j es : List Entry) → AreOwn es → (place_of (j ++ es)).activation ≡ (place_of j).activation
own_activation j es o =
    own_all (λ k. (place_of k).activation ≡ (place_of j).activation)
    (λ k e i h. ap (λ (p : JournalPlace). p.activation) (place_push k e) ∙ own_begins (place_of k) e i ∙ h) j es o refl

pub own_stopped : (j es : List Entry) → AreOwn es → stops_of (j ++ es) ≡ stops_of j
own_stopped j es o =
    own_all (λ k. stops_of k ≡ stops_of j) (λ k e i h. let s = total_push stops_in k e in let z = own_stops e i in
    omega (arith, s, z, h)) j es o refl

pub own_sends : (j es : List Entry) → AreOwn es → sends_taken (j ++ es) ≡ sends_taken j
own_sends j es o =
    own_all (λ k. sends_taken k ≡ sends_taken j)
    (λ k e i h. let s = total_push (λ (x : Entry). total is_send (taken_in x)) k e in
    let z : total is_send (taken_in e) ≡ 0 = ap (total is_send) (own_takes e i) in omega (arith, s, z, h)) j es o refl

pub own_when : (j es : List Entry) (a : ℕ) → AreOwn es → taken_when (j ++ es) a ≡ taken_when j a
own_when j es a o =
    own_all (λ k. taken_when k a ≡ taken_when j a)
    (λ k e i h. of_part_none _ k e a (ap (map (timed (place_of k).bits)) (own_takes e i)) ∙ h) j es o refl

pub own_taken : (j es : List Entry) (a : ℕ) → AreOwn es → taken_of (part (j ++ es) a) ≡ taken_of (part j a)
own_taken j es a o = own_all (λ k. taken_of (part k a) ≡ taken_of (part j a))
    (λ k e i h. taken_same k e a (own_takes e i) ∙ h) j es o refl

-- they stand in the last activation that has begun
pub own_part : (j es : List Entry) (a : ℕ) → AreOwn es → (place_of j).activation ≡ a → part (j ++ es) a ≡ part j a ++ es
own_part j [] a o at = ap (λ (l : List Entry). part l a) (append-nil j) ∙ sym (append-nil (part j a))
own_part j (e ∷ es) a o at =
    let here : (past (place_of j) e).activation ≡ a = own_begins (place_of j) e o.0 ∙ at in
    ap (λ (l : List Entry). part l a) (sym (append_assoc j (e ∷ []) es))
    ∙ own_part (j ++ e ∷ []) es a o.1 (ap (λ (p : JournalPlace). p.activation) (place_push j e) ∙ here)
    ∙ ap (λ (l : List Entry). l ++ es) (part_here j e a here) ∙ append_assoc (part j a) (e ∷ []) es

-- after more bits they change nothing of what was put by then
pub own_late : (n : ℕ) (j es : List Entry) (a : ℕ) → AreOwn es → n < (place_of j).bits →
    put_by n (j ++ es) a ≡ put_by n j a
own_late n j es a o late =
    (own_all (λ k. (put_by n k a ≡ put_by n j a) × (n < (place_of k).bits))
    (λ k e i h. let b = (past_rises (place_of k) e).bits in
    let p : (place_of (k ++ e ∷ [])).bits ≡ (past (place_of k) e).bits = ap (λ (q : JournalPlace). q.bits)
    (place_push k e) in let l = h.1 in
    (put_later n k e a h.1 ∙ h.0, omega (arith, b, p, l))) j es o (refl, late)).0
