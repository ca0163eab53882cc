-- A journal that goes on: what it was, and what it showed then.
use Rattle.std.proofs.Common.{◌≡◌, ℕ, suc, ◌+◌, ◌<◌, Bool, true, false, Option, Some, None, List, [], ◌∷◌, ◌++◌}
use Rattle.std.proofs.Common.{length, refl, sym, ap, ◌∙◌, subst, append_assoc, append-nil, arith}
use Rattle.std.specs.Prelude.{◌==◌, nat_le, if◌then◌else◌}
use Rattle.std.proofs.lemmas.Bool.{lt-leb}
use Rattle.std.proofs.lemmas.List.{length-append}
use Rattle.can_levels.specs.declared.level.Level.{Level}
use Rattle.sja_journal.specs.NodeWords.{NodeBit}
use Rattle.sja_journal.specs.declared.down.Down.{Down}
use Rattle.sja_journal.specs.declared.up.Up.{Up}
use Rattle.sja_journal.specs.declared.verdict.Verdict.{Verdict}
use Rattle.sja_journal.specs.declared.verdict.Verdict.TheVariants.{Stored as ToStore, Overrun as ToLose}
use Rattle.sja_journal.specs.declared.entry.Entry.{Entry}
use Rattle.sja_journal.specs.declared.entry.Entry.TheVariants.{Bit, Up as Item, Abort, Stored, Overrun, Off}
use Rattle.lemmas.specs.Gathering.{gathered}
use Rattle.sja_journal.specs.Places.{JournalPlace, first_place, past, place_of, Placed, placed_from, placed}
use Rattle.sja_journal.specs.Parts.{in_part}
use Rattle.sja_journal.specs.Carried.{bits_of, taken_of, put_in}
use Rattle.sja_journal.specs.Verdicts.{entry_of}
use Rattle.lemmas.proofs.Gathered.{gathered_append}
use Rattle.sja_journal.proofs.JournalEntries.Entering.{past_rises, item_bits, placed_append}
use Rattle.sja_journal.proofs.Growing.Items.{items_bits}
use Rattle.sja_journal.specs.BitEntries.{entries_of_items, abort_as, judged_as, off_as, HasMore, HasOneBit}
use Rattle.sja_driver.specs.Moments.{at_moment}
use Rattle.sja_driver.specs.Windows.{put_by}
use Rattle.sja_driver.proofs.Trace.Moments.{HasBitsAfterAborts, at_moment-now}

-- these entries put nothing before their first bit
abbrev pub PutsLater : List Entry → Type 0
PutsLater [] = Unit {0}
PutsLater (Bit driven seen ∷ es) = Unit {0}
PutsLater (Item u ∷ es) = PutsLater es
PutsLater (Abort ∷ es) = PutsLater es
PutsLater (Stored m ∷ es) = ⊥
PutsLater (Overrun m ∷ es) = ⊥
PutsLater (Off ∷ es) = ⊥

-- a journal that goes on so
pub record Extends (j final : List Entry) : Type 0 where
  pub rest : List Entry
  pub whole : final ≡ j ++ rest
  pub later : PutsLater rest

pub extends_none : (j : List Entry) → Extends j j
extends_none j = record { rest = []; whole = sym (append-nil j); later = tt }

-- ---- the journal as it was

moment_later : (es : List Entry) → PutsLater es → at_moment 0 0 es ≡ []
moment_later [] h = refl
moment_later (Bit driven seen ∷ es) h = refl
moment_later (Item u ∷ es) h = refl
moment_later (Abort ∷ es) h = refl
moment_later (Stored m ∷ es) h = absurd h
moment_later (Overrun m ∷ es) h = absurd h
moment_later (Off ∷ es) h = absurd h

pub moment_then : (j final : List Entry) (bits items : ℕ) → Extends j final → HasBitsAfterAborts j →
    length (bits_of j) ≡ bits → length (taken_of j) ≡ items → at_moment bits items final ≡ j
moment_then j final bits items x aborts b i =
    ap (at_moment bits items) x.whole
    ∙ (λ t. at_moment (sym b t) (sym i t) (j ++ x.rest))
    ∙ at_moment-now j x.rest aborts ∙ ap (λ l. j ++ l) (moment_later x.rest x.later) ∙ append-nil j

-- ---- what it had put

abbrev early : ℕ → Placed → List Down
early n q = if nat_le q.before.bits n then put_in q.entry else []

nothing : (b : Bool) (l : List Down) → (if b then [] else []) ++ l ≡ l
nothing true l = refl
nothing false l = refl

nothing_twice : (b c : Bool) (l : List Down) → (if b then (if c then [] else []) else []) ++ l ≡ l
nothing_twice true true l = refl
nothing_twice true false l = refl
nothing_twice false c l = refl

none_after : (n : ℕ) (p : JournalPlace) (es : List Entry) (a : ℕ) → n < p.bits →
    gathered (in_part (early n) a) (placed_from p es) ≡ []
none_after n p [] a h = refl
none_after n p (e ∷ es) a h =
    let more = (past_rises p e).bits in
    ap (λ (c : Bool). (if (past p e).activation == a then (if c then put_in e else []) else []) ++ gathered
    (in_part (early n) a) (placed_from (past p e) es)) (lt-leb p.bits n h)
    ∙ nothing ((past p e).activation == a) _ ∙ none_after n (past p e) es a (omega (arith, more, h))

none_by_then : (n : ℕ) (p : JournalPlace) (es : List Entry) (a : ℕ) → n ≡ p.bits → PutsLater es →
    gathered (in_part (early n) a) (placed_from p es) ≡ []
none_by_then n p [] a e h = refl
none_by_then n p (Bit driven seen ∷ es) a e h =
    nothing_twice ((past p (Bit driven seen)).activation == a) (nat_le p.bits n) _
    ∙ none_after n (past p (Bit driven seen)) es a (omega (arith, e))
none_by_then n p (Item u ∷ es) a e h =
    nothing_twice ((past p (Item u)).activation == a) (nat_le p.bits n) _
    ∙ none_by_then n (past p (Item u)) es a (e ∙ sym (item_bits p u)) h
none_by_then n p (Abort ∷ es) a e h =
    nothing_twice ((past p Abort).activation == a) (nat_le p.bits n) _ ∙ none_by_then n (past p Abort) es a e h
none_by_then n p (Stored m ∷ es) a e h = absurd h
none_by_then n p (Overrun m ∷ es) a e h = absurd h
none_by_then n p (Off ∷ es) a e h = absurd h

pub put_then : (j final : List Entry) (n a : ℕ) → Extends j final → n ≡ (place_of j).bits →
    put_by n final a ≡ put_by n j a
put_then j final n a x e =
    ap (λ l. put_by n l a) x.whole
    ∙ ap (gathered (in_part (early n) a)) (placed_append first_place j x.rest)
    ∙ gathered_append (in_part (early n) a) (placed j) (placed_from (place_of j) x.rest)
    ∙ ap (λ l. put_by n j a ++ l) (none_by_then n (place_of j) x.rest a e x.later)
    ∙ append-nil (put_by n j a)

-- ---- items more

later_items : (us : List Up) (es : List Entry) → PutsLater es → PutsLater (entries_of_items us ++ es)
later_items [] es h = h
later_items (u ∷ us) es h = later_items us es h

pub extends_items : (j k final : List Entry) → HasMore j k → Extends k final → Extends j final
extends_items j k final items x = record {
  rest = entries_of_items items.items ++ x.rest;
  whole = x.whole ∙ ap (λ l. l ++ x.rest) items.whole ∙ append_assoc j (entries_of_items items.items) x.rest;
  later = later_items items.items x.rest x.later;
}

items_aborts : (us : List Up) → HasBitsAfterAborts (entries_of_items us)
items_aborts [] = tt
items_aborts (u ∷ us) = items_aborts us

aborts_both : (j es : List Entry) → HasBitsAfterAborts j → HasBitsAfterAborts es → HasBitsAfterAborts (j ++ es)
aborts_both [] es h k = k
aborts_both (Abort ∷ j) es h k =
    let l = ap (λ (x : List NodeBit). length x) (gathered_append _ j es) ∙ length-append (bits_of j) (bits_of es) in
    let f = h.0 in (omega (arith, f, l), aborts_both j es h.1 k)
aborts_both (Bit driven seen ∷ j) es h k = aborts_both j es h k
aborts_both (Item u ∷ j) es h k = aborts_both j es h k
aborts_both (Stored m ∷ j) es h k = aborts_both j es h k
aborts_both (Overrun m ∷ j) es h k = aborts_both j es h k
aborts_both (Off ∷ j) es h k = aborts_both j es h k

pub bits_items : (j k : List Entry) → HasMore j k → length (bits_of k) ≡ length (bits_of j)
bits_items j k items =
    ap (λ l. length (bits_of l)) items.whole ∙ ap (λ l. length l)
    (gathered_append _ j (entries_of_items items.items) ∙ ap (λ l. bits_of j ++ l) (items_bits items.items)
    ∙ append-nil (bits_of j))

pub aborts_items : (j k : List Entry) → HasMore j k → HasBitsAfterAborts j → HasBitsAfterAborts k
aborts_items j k items h = subst (λ (l : List Entry). HasBitsAfterAborts l) (sym items.whole)
    (aborts_both j (entries_of_items items.items) h (items_aborts items.items))

-- ---- a bit more

-- what a bit adds
abbrev tail_of : Bool → Level → Level → Option (Verdict × List ℕ) → Bool → List Entry
tail_of changed driven seen verdict off = abort_as changed ++ (Bit driven seen ∷ (judged_as verdict ++ off_as off))

tail_is : (j k : List Entry) (h : HasOneBit j k) → k ≡ j ++ tail_of h.changed h.driven h.seen h.bit.verdict h.bit.off
tail_is j k h =
    h.bit.whole
    ∙ append_assoc ((j ++ abort_as h.changed) ++ Bit h.driven h.seen ∷ []) (judged_as h.bit.verdict) (off_as h.bit.off)
    ∙ append_assoc (j ++ abort_as h.changed) (Bit h.driven h.seen ∷ []) (judged_as h.bit.verdict ++ off_as h.bit.off)
    ∙ append_assoc j (abort_as h.changed) (Bit h.driven h.seen ∷ (judged_as h.bit.verdict ++ off_as h.bit.off))

tail_later : (changed : Bool) (driven seen : Level) (verdict : Option (Verdict × List ℕ)) (off : Bool)
    (es : List Entry) → PutsLater (tail_of changed driven seen verdict off ++ es)
tail_later true driven seen verdict off es = tt
tail_later false driven seen verdict off es = tt

pub extends_bit : (j k final : List Entry) → HasOneBit j k → Extends k final → Extends j final
extends_bit j k final h x =
    let tail = tail_of h.changed h.driven h.seen h.bit.verdict h.bit.off in record {
      rest = tail ++ x.rest;
      whole = x.whole ∙ ap (λ l. l ++ x.rest) (tail_is j k h) ∙ append_assoc j tail x.rest;
      later = tail_later h.changed h.driven h.seen h.bit.verdict h.bit.off x.rest;
    }

-- a verdict and bus-off are no bits and no aborts
entry_plain : (v : Verdict) (m : List ℕ) (es : List Entry) →
    (bits_of (entry_of v m ∷ es) ≡ bits_of es) × (HasBitsAfterAborts es → HasBitsAfterAborts (entry_of v m ∷ es))
entry_plain ToStore m es = (refl, λ h. h)
entry_plain ToLose m es = (refl, λ h. h)

off_plain : (off : Bool) → (bits_of (off_as off) ≡ []) × HasBitsAfterAborts (off_as off)
off_plain true = (refl, tt)
off_plain false = (refl, tt)

after_plain : (verdict : Option (Verdict × List ℕ)) (off : Bool) →
    (bits_of (judged_as verdict ++ off_as off) ≡ []) × HasBitsAfterAborts (judged_as verdict ++ off_as off)
after_plain None off = off_plain off
after_plain (Some v) off =
    let o = off_plain off in let e = entry_plain v.0 v.1 (off_as off) in (e.0 ∙ o.0, e.1 o.1)

tail_bits : (changed : Bool) (driven seen : Level) (verdict : Option (Verdict × List ℕ)) (off : Bool) →
    length (bits_of (tail_of changed driven seen verdict off)) ≡ 1
tail_bits true driven seen verdict off = let a = after_plain verdict off in ap (λ l. suc (length l)) a.0
tail_bits false driven seen verdict off = let a = after_plain verdict off in ap (λ l. suc (length l)) a.0

tail_aborts : (changed : Bool) (driven seen : Level) (verdict : Option (Verdict × List ℕ)) (off : Bool) →
    HasBitsAfterAborts (tail_of changed driven seen verdict off)
tail_aborts true driven seen verdict off =
    let a = after_plain verdict off in let b = tail_bits false driven seen verdict off in (omega (arith, b), a.1)
tail_aborts false driven seen verdict off = let a = after_plain verdict off in a.1

pub bits_bit : (j k : List Entry) → HasOneBit j k → length (bits_of k) ≡ length (bits_of j) + 1
bits_bit j k h =
    let tail = tail_of h.changed h.driven h.seen h.bit.verdict h.bit.off in
    let one = tail_bits h.changed h.driven h.seen h.bit.verdict h.bit.off in
    let whole = ap (λ l. length (bits_of l)) (tail_is j k h) ∙ ap (λ l. length l) (gathered_append _ j tail)
    ∙ length-append (bits_of j) (bits_of tail) in
    omega (arith, whole, one)

pub aborts_bit : (j k : List Entry) → HasOneBit j k → HasBitsAfterAborts j → HasBitsAfterAborts k
aborts_bit j k h a =
    let tail = tail_of h.changed h.driven h.seen h.bit.verdict h.bit.off in
    subst (λ (l : List Entry). HasBitsAfterAborts l) (sym (tail_is j k h))
    (aborts_both j tail a (tail_aborts h.changed h.driven h.seen h.bit.verdict h.bit.off))
