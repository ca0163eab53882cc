-- After how many bits the verdicts of a journal stand.
use Rattle.std.proofs.Common.{◌≡◌, ◌+◌, ◌<◌, ℕ, Bool, true, false, List, [], ◌∷◌, ◌++◌, refl, sym, ap, ◌∙◌, subst}
use Rattle.std.proofs.Common.{arith}
use Rattle.std.specs.Prelude.{◌==◌, if◌then◌else◌}
use Rattle.can_levels.specs.declared.level.Level.{Level}
use Rattle.lemmas.specs.Gathering.{gathered}
use Rattle.lemmas.proofs.Gathered.{gathered_append}
use Rattle.sja_journal.specs.declared.entry.Entry.{Entry}
use Rattle.sja_journal.specs.declared.entry.Entry.TheVariants.{Bit, Up as Item, Abort, Stored, Overrun, Off}
use Rattle.sja_journal.specs.Judged.{Judged, judged_at, judged_in}
use Rattle.sja_journal.specs.Parts.{in_part}
use Rattle.sja_journal.specs.Places.{JournalPlace, Placed, first_place, past, past_all, place_of, placed, placed_from}
use Rattle.sja_journal.proofs.JournalEntries.Entering.{all_rise, item_bits, past_rises, placed_append}
use Rattle.sja_laws.specs.LongerJournals.{BringsLater}
use Rattle.sja_laws.proofs.Journals.Partners.{OfNone, none_both}

abbrev pub StandsAfter : ℕ → Judged → Type 0
StandsAfter n y = y.bits ≡ n

none_here : (n : ℕ) (q : Placed) → (q.before.bits ≡ n → ⊥) → OfNone (StandsAfter n) (judged_at q)
none_here n q other = by q.entry
  where
    by : (e : Entry) → OfNone (StandsAfter n) (judged_at (record { before = q.before; entry = e }))
    by (Stored m) = (other, tt)
    by (Overrun m) = (other, tt)
    by (Bit driven seen) = tt
    by (Item u) = tt
    by Abort = tt
    by Off = tt

none_in : (n : ℕ) (l : List Judged) (here : Bool) → OfNone (StandsAfter n) l →
    OfNone (StandsAfter n) (if here then l else [])
none_in n l true h = h
none_in n l false h = tt

one_more : (n a : ℕ) (p : JournalPlace) (e : Entry) (es : List Entry) →
    OfNone (StandsAfter n) (judged_at (record { before = p; entry = e })) →
    OfNone (StandsAfter n) (gathered (in_part judged_at a) (placed_from (past p e) es)) →
    OfNone (StandsAfter n) (gathered (in_part judged_at a) (placed_from p (e ∷ es)))
one_more n a p e es here later =
    let q : Placed = record { before = p; entry = e } in
    none_both (StandsAfter n) (in_part judged_at a q) (gathered (in_part judged_at a) (placed_from (past p e) es))
    (none_in n (judged_at q) ((past p e).activation == a) here) later

-- those of later entries stand after more
none_after : (n a : ℕ) (p : JournalPlace) (es : List Entry) → n < p.bits →
    OfNone (StandsAfter n) (gathered (in_part judged_at a) (placed_from p es))
none_after n a p [] h = tt
none_after n a p (e ∷ es) h =
    let more = (past_rises p e).bits in
    one_more n a p e es (none_here n (record { before = p; entry = e }) (λ is. omega (arith, is, h)))
    (none_after n a (past p e) es (omega (arith, more, h)))

-- those of earlier ones after fewer
none_before : (n a : ℕ) (p : JournalPlace) (es : List Entry) → (past_all p es).bits < n →
    OfNone (StandsAfter n) (gathered (in_part judged_at a) (placed_from p es))
none_before n a p [] h = tt
none_before n a p (e ∷ es) h =
    let more = (past_rises p e).bits in
    let all = (all_rise (past p e) es).bits in
    one_more n a p e es
    (none_here n (record { before = p; entry = e }) (λ is. omega (arith, is, h, more, all)))
    (none_before n a (past p e) es h)

-- and so where there is none before the next bit
pub none_then : (n a : ℕ) (p : JournalPlace) (es : List Entry) → p.bits ≡ n → BringsLater es →
    OfNone (StandsAfter n) (gathered (in_part judged_at a) (placed_from p es))
none_then n a p [] is h = tt
none_then n a p (Bit driven seen ∷ es) is h =
    one_more n a p (Bit driven seen) es tt (none_after n a (past p (Bit driven seen)) es (omega (arith, is)))
none_then n a p (Item u ∷ es) is h =
    one_more n a p (Item u) es tt (none_then n a (past p (Item u)) es (item_bits p u ∙ is) h)
none_then n a p (Abort ∷ es) is h = one_more n a p Abort es tt (none_then n a (past p Abort) es is h)
none_then n a p (Stored m ∷ es) is h = absurd h
none_then n a p (Overrun m ∷ es) is h = absurd h
none_then n a p (Off ∷ es) is h = absurd h

-- a journal with a bit more, and behind it bus-off perhaps and no verdict: none stands right after that bit
pub none_there : (j es : List Entry) (driven seen : Level) (a : ℕ) → BringsLater es →
    OfNone (StandsAfter ((place_of j).bits + 1)) (judged_in (j ++ Bit driven seen ∷ es) a)
none_there j es driven seen a later =
    let n = (place_of j).bits + 1 in
    let p = past (place_of j) (Bit driven seen) in
    let split : judged_in (j ++ Bit driven seen ∷ es) a
    ≡ judged_in j a ++ gathered (in_part judged_at a) (placed_from (place_of j) (Bit driven seen ∷ es)) =
    ap (gathered (in_part judged_at a)) (placed_append first_place j (Bit driven seen ∷ es))
    ∙ gathered_append (in_part judged_at a) (placed j) (placed_from (place_of j) (Bit driven seen ∷ es)) in
    subst (λ l. OfNone (StandsAfter n) l) (sym split)
    (none_both (StandsAfter n) (judged_in j a)
    (gathered (in_part judged_at a) (placed_from (place_of j) (Bit driven seen ∷ es)))
    (none_before n a first_place j (omega arith))
    (one_more n a (place_of j) (Bit driven seen) es tt (none_then n a p es refl later)))

pub none_there_off : (j es : List Entry) (driven seen : Level) (a : ℕ) → BringsLater es →
    OfNone (StandsAfter ((place_of j).bits + 1)) (judged_in (j ++ Bit driven seen ∷ (Off ∷ es)) a)
none_there_off j es driven seen a later =
    let n = (place_of j).bits + 1 in
    let p = past (place_of j) (Bit driven seen) in
    let split : judged_in (j ++ Bit driven seen ∷ (Off ∷ es)) a
    ≡ judged_in j a ++ gathered (in_part judged_at a) (placed_from (place_of j) (Bit driven seen ∷ (Off ∷ es))) =
    ap (gathered (in_part judged_at a)) (placed_append first_place j (Bit driven seen ∷ (Off ∷ es)))
    ∙ gathered_append (in_part judged_at a) (placed j) (placed_from (place_of j) (Bit driven seen ∷ (Off ∷ es))) in
    subst (λ l. OfNone (StandsAfter n) l) (sym split)
    (none_both (StandsAfter n) (judged_in j a)
    (gathered (in_part judged_at a) (placed_from (place_of j) (Bit driven seen ∷ (Off ∷ es))))
    (none_before n a first_place j (omega arith))
    (one_more n a (place_of j) (Bit driven seen) (Off ∷ es) tt
    (one_more n a p Off es tt (none_then n a (past p Off) es refl later))))
