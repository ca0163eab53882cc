-- Items in time, with each thing that a driver or the bus does.
use Rattle.std.proofs.Common.{◌≡◌, ℕ, ◌<◌, ◌≤◌, Bool, true, false, List, [], ◌∷◌, ◌++◌, map, refl, sym, ap}
use Rattle.std.proofs.Common.{◌∙◌, append_assoc, append-nil, arith, inl, inr, ◌⊎◌, cond}
use Rattle.std.specs.Prelude.{nat_le, ◌==◌, if◌then◌else◌}
use Rattle.std.proofs.lemmas.Bool.{cases_eq, le-leb, lt-leb}
use Rattle.sja_journal.specs.declared.down.Down.{Down}
use Rattle.sja_journal.specs.declared.up.Up.{Up}
use Rattle.sja_journal.specs.declared.entry.Entry.{Entry}
use Rattle.sja_journal.specs.declared.entry.Entry.TheVariants.{Up as Item}
use Rattle.lemmas.specs.Gathering.{gathered}
use Rattle.sja_journal.specs.Places.{JournalPlace, first_place, past, past_all, place_of, Placed, placed_from}
use Rattle.sja_journal.specs.Parts.{in_part, entry_at, part}
use Rattle.sja_journal.specs.Carried.{taken_in, put_in, taken_of, put_of}
use Rattle.sja_journal.proofs.JournalEntries.Entering.{place_push, of_part_here, of_part_else, of_part_none, part_here}
use Rattle.sja_journal.proofs.JournalEntries.Entering.{part_else, all_rise}
use Rattle.lemmas.proofs.Gathered.{gathered_push}
use Rattle.sja_driver.specs.Timing.{Timed, timed, taken_when}
use Rattle.sja_driver.proofs.Trace.Waiting.{WaitsInTime}
use Rattle.sja_driver.specs.Windows.{put_by}

-- ---- when

-- the first that waits is taken
pub timely_take : (given : List Timed) (j : List Entry) (a : ℕ) (u : Up) (up : List Up) →
    (past (place_of j) (Item u)).activation ≡ a → (past (place_of j) (Item u)).bits ≡ (place_of j).bits →
    WaitsInTime given j a (u ∷ up) → WaitsInTime given (j ++ Item u ∷ []) a up
timely_take given j a u up at same h =
    let b : (place_of (j ++ Item u ∷ [])).bits ≡ (place_of j).bits =
    ap (λ (p : JournalPlace). p.bits) (place_push j (Item u)) ∙ same in
    h ∙ sym (append_assoc (taken_when j a) (timed (place_of j).bits u ∷ []) (map (timed (place_of j).bits) up))
    ∙ ap (λ l. l ++ map (timed (place_of j).bits) up) (sym
    (of_part_here (λ q. map (timed q.before.bits) (taken_in q.entry)) j (Item u) a at))
    ∙ ap (λ n. taken_when (j ++ Item u ∷ []) a ++ map (timed n) up) (sym b)

-- an entry by which nothing of this activation was taken, and no bit
pub timely_quiet : (given : List Timed) (j : List Entry) (e : Entry) (a : ℕ) (up : List Up) → (taken_in e ≡ [])
    ⊎ ((past (place_of j) e).activation ≡ a → ⊥) → (past (place_of j) e).bits ≡ (place_of j).bits →
    WaitsInTime given j a up → WaitsInTime given (j ++ e ∷ []) a up
timely_quiet given j e a up none same h =
    let f : Placed → List Timed = λ q. map (timed q.before.bits) (taken_in q.entry) in
    let b : (place_of (j ++ e ∷ [])).bits ≡ (place_of j).bits =
    ap (λ (p : JournalPlace). p.bits) (place_push j e) ∙ same in
    let t : taken_when (j ++ e ∷ []) a ≡ taken_when j a = elim none [
      | inl q ↦ of_part_none f j e a (ap (map (timed (place_of j).bits)) q)
      | inr n ↦ of_part_else f j e a n
    ] in
    h ∙ ap (λ l. l ++ map (timed (place_of j).bits) up) (sym t)
    ∙ ap (λ n. taken_when (j ++ e ∷ []) a ++ map (timed n) up) (sym b)

-- at the end nothing waits: what was given is what was taken, each after the bits that had run when it was given
pub all_timely : (given : List Timed) (j : List Entry) (a : ℕ) → WaitsInTime given j a [] → given ≡ taken_when j a
all_timely given j a h = h ∙ append-nil (taken_when j a)

-- ---- the bus takes in order

taken_push : (j : List Entry) (e : Entry) (a : ℕ) → (past (place_of j) e).activation ≡ a →
    taken_of (part (j ++ e ∷ []) a) ≡ taken_of (part j a) ++ taken_in e
taken_push j e a at = ap taken_of (part_here j e a at) ∙ gathered_push taken_in (part j a) e

pub taken_same : (j : List Entry) (e : Entry) (a : ℕ) → taken_in e ≡ [] →
    taken_of (part (j ++ e ∷ []) a) ≡ taken_of (part j a)
taken_same j e a none = elim (cases_eq (past (place_of j) e).activation a) [
  | inl q ↦ taken_push j e a q ∙ ap (λ l. taken_of (part j a) ++ l) none ∙ append-nil (taken_of (part j a))
  | inr n ↦ ap taken_of (part_else j e a n)
]

-- ---- what a driver is shown

-- an entry after more bits adds nothing
pub put_later : (k : ℕ) (j : List Entry) (e : Entry) (a : ℕ) → k < (place_of j).bits →
    put_by k (j ++ e ∷ []) a ≡ put_by k j a
put_later k j e a late =
    of_part_none (λ q. if nat_le q.before.bits k then put_in q.entry else []) j e a
    (ap (λ (b : Bool). if b then put_in e else []) (lt-leb (place_of j).bits k late))

-- by the time of its last bit that is all that was put
all_put : (k : ℕ) (p : JournalPlace) (es : List Entry) (a : ℕ) → (past_all p es).bits ≤ k →
    gathered (in_part (λ q. if nat_le q.before.bits k then put_in q.entry else []) a) (placed_from p es) ≡ gathered
    put_in (gathered (in_part entry_at a) (placed_from p es))
all_put k p [] a few = refl
all_put k p (e ∷ es) a few =
    let more = (all_rise p (e ∷ es)).bits in
    let near : nat_le p.bits k ≡ true = le-leb p.bits k (omega (arith, more, few)) in
    ap (λ b. cond ((past p e).activation == a) (cond b (put_in e) []) []
    ++ gathered (in_part (λ q. if nat_le q.before.bits k then put_in q.entry else []) a)
    (placed_from (past p e) es)) near
    ∙ one ((past p e).activation == a) _ (gathered (in_part entry_at a) (placed_from (past p e) es))
    (all_put k (past p e) es a few)
  where
    one : (b : Bool) (x : List Down) (y : List Entry) → x ≡ gathered put_in y → cond b (put_in e) []
        ++ x ≡ gathered put_in (cond b (e ∷ []) [] ++ y)
    one true x y h = ap (λ l. put_in e ++ l) h
    one false x y h = h

pub put_now : (j : List Entry) (a : ℕ) → put_by (place_of j).bits j a ≡ put_of (part j a)
put_now j a = all_put (place_of j).bits first_place j a (omega arith)
