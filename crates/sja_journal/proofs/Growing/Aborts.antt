-- An abort that a journal has changes its node.
use Rattle.std.proofs.Common.{◌≡◌, ◌≢◌, inl, inr, Bool, true, false, List, refl, ap, ◌∙◌}
use Rattle.can_node_rules.specs.declared.abort_outcome.AbortOutcome.{AbortOutcome}
use Rattle.can_node_rules.specs.declared.abort_outcome.AbortOutcome.TheVariants.{Unchanged}
use Rattle.can_node_rules.specs.Cut.{IsCut}
use Rattle.can_node_rules.specs.FinishedPieces.{FinishedPiece}
use Rattle.sja_journal.specs.declared.entry.Entry.{Entry}
use Rattle.sja_journal.specs.Places.{place_of}
use Rattle.sja_journal.specs.Aborting.{abort_in, changes, IsApplied}
use Rattle.sja_journal.specs.Records.{record_of}

same_changes : (changed : Bool) (a : AbortOutcome) → changed ≡ changes a → a ≡ Unchanged → changed ≡ false
same_changes changed a is same = is ∙ ap changes same

pub abort_changes : (j : List Entry) (found : List FinishedPiece) (h : IsCut (record_of j) found) → IsApplied j true →
    abort_in h ≢ Unchanged
abort_changes j found h applied same = by (place_of j).off refl
  where
    never : true ≡ false → ⊥
    never e = cc

    by : (off : Bool) → (place_of j).off ≡ off → ⊥
    by true e = never (applied.rests (inr e))
    by false e = never (applied.rests (inl (λ opened.
        never (same_changes true (abort_in h) (applied.runs opened e found h) same))))
