-- Activations that begin, as a journal grows.
use Rattle.std.proofs.Common.{◌≡◌, ℕ, suc, ◌≤◌, Bool, true, false, Option, Some, None, List, [], ◌∷◌, ◌++◌, refl}
use Rattle.std.proofs.Common.{◌∙◌, sym, ap, subst, append-nil, arith}
use Rattle.can_levels.specs.declared.level.Level.{Level}
use Rattle.sja_journal.specs.declared.verdict.Verdict.{Verdict}
use Rattle.sja_journal.specs.declared.verdict.Verdict.TheVariants.{Stored, Overrun}
use Rattle.sja_journal.specs.declared.up.Up.{Up}
use Rattle.sja_journal.specs.declared.entry.Entry.{Entry}
use Rattle.sja_journal.specs.declared.entry.Entry.TheVariants.{Bit, Up as Item}
use Rattle.sja_journal.specs.Places.{JournalPlace, past, place_of}
use Rattle.sja_journal.specs.Opening.{begun_in, BeginsWithin}
use Rattle.sja_journal.specs.Verdicts.{entry_of}
use Rattle.sja_journal.specs.BitEntries.{MayHaveAbort, MayHaveVerdict, HasBit, abort_as, judged_as, off_as}
use Rattle.sja_journal.proofs.JournalEntries.Entering.{place_push}

-- an entry that begins none
pub begun_push : (j : List Entry) (e : Entry) → ((p : JournalPlace) → (past p e).activation ≡ p.activation) →
    begun_in (j ++ e ∷ []) ≡ begun_in j
begun_push j e none = ap (λ (p : JournalPlace). p.activation) (place_push j e) ∙ none (place_of j)

begun_judged : (j : List Entry) (o : Option (Verdict × List ℕ)) → begun_in (j ++ judged_as o) ≡ begun_in j
begun_judged j None = ap begun_in (append-nil j)
begun_judged j (Some (Stored, m)) = begun_push j (entry_of Stored m) (λ p. refl)
begun_judged j (Some (Overrun, m)) = begun_push j (entry_of Overrun m) (λ p. refl)

begun_off : (j : List Entry) (off : Bool) → begun_in (j ++ off_as off) ≡ begun_in j
begun_off j true = begun_push j _ (λ p. refl)
begun_off j false = ap begun_in (append-nil j)

-- a bit with what came of it begins none
pub begun_verdict : (j k : List Entry) (driven seen : Level) → MayHaveVerdict j driven seen k → begun_in k ≡ begun_in j
begun_verdict j k driven seen h =
    ap begun_in h.whole ∙ begun_judged (j ++ Bit driven seen ∷ []) h.verdict
    ∙ begun_push j (Bit driven seen) (λ p. refl)

-- nor where the node went bus-off in it, and neither does an abort
pub begun_bit : (j k : List Entry) (driven seen : Level) → HasBit j driven seen k → begun_in k ≡ begun_in j
begun_bit j k driven seen h =
    let mid = j ++ Bit driven seen ∷ [] in
    ap begun_in h.whole ∙ begun_off (mid ++ judged_as h.verdict) h.off ∙ begun_judged mid h.verdict
    ∙ begun_push j (Bit driven seen) (λ p. refl)

pub begun_aborted : (j k : List Entry) → MayHaveAbort j k → begun_in k ≡ begun_in j
begun_aborted j k h = ap begun_in h.whole ∙ by h.changed
  where
    by : (changed : Bool) → begun_in (j ++ abort_as changed) ≡ begun_in j
    by true = begun_push j _ (λ p. refl)
    by false = ap begun_in (append-nil j)

-- where as many have begun as before, none has begun
pub begins_none : (most : ℕ) (j k : List Entry) → begun_in k ≡ begun_in j → BeginsWithin most j k
begins_none most j k same n far was = omega (arith, same, was)

-- an item of one of the first so many activations
pub begins_item : (most : ℕ) (j : List Entry) (u : Up) → (past (place_of j) (Item u)).activation ≤ most →
    BeginsWithin most j (j ++ Item u ∷ [])
begins_item most j u few n far was =
    let is = ap (λ (p : JournalPlace). p.activation) (place_push j (Item u)) in omega (arith, is, few, far)
