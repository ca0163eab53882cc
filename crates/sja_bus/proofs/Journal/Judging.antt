-- What the bus knows of the activation that it reads, where a verdict is due.
use Rattle.std.proofs.Common.{◌≡◌, ℕ, List, [], ◌∷◌, ◌++◌, refl, sym, subst}
use Rattle.can_levels.specs.declared.level.Level.{Level}
use Rattle.sja_journal.specs.declared.verdict.Verdict.{Verdict}
use Rattle.sja_journal.specs.declared.verdict.Verdict.TheVariants.{Stored as ToStore, Overrun as ToLose}
use Rattle.sja_journal.specs.declared.entry.Entry.{Entry}
use Rattle.sja_journal.specs.declared.entry.Entry.TheVariants.{Bit}
use Rattle.sja_journal.specs.Places.{JournalPlace, past, place_of}
use Rattle.sja_journal.specs.Parts.{part}
use Rattle.sja_journal.specs.Carried.{put_of}
use Rattle.lemmas.specs.Gathering.{total}
use Rattle.sja_link.specs.World.{is_off}
use Rattle.sja_journal.specs.Free.{IsFree}
use Rattle.sja_journal.specs.Verdicts.{EndsInBit, IsPrompt, IsFair, IsDue, entry_of}
use Rattle.sja_journal.proofs.JournalEntries.Entering.{part_here}
use Rattle.sja_journal.proofs.Ledger.Freeing.{free_same}
use Rattle.sja_link.specs.Orderly.{IsRunning, IsOrderly}
use Rattle.sja_bus.proofs.Journal.Parted.{marks_in}

-- after a bit a verdict is due that is fair by what is free
pub due_now : (j : List Entry) (x seen : Level) (a : ℕ) (v : Verdict) (m : List ℕ) (free : ℕ) →
    (place_of j).activation ≡ a → IsFree (part j a) free →
    ((p : List Entry) → IsFree p free → IsFair p (entry_of v m)) → IsDue (part (j ++ Bit x seen ∷ []) a) (entry_of v m)
due_now j x seen a v m free at h fair =
    let one : part (j ++ Bit x seen ∷ []) a ≡ part j a ++ Bit x seen ∷ [] = part_here j (Bit x seen) a at in
    let now : IsFree (part (j ++ Bit x seen ∷ []) a) free =
    subst (λ (p : List Entry). IsFree p free) (sym one) (free_same (part j a) (Bit x seen) free refl refl h) in (
      prompt v (record { before = part j a; driven = x; seen = seen; whole = one }),
      fair (part (j ++ Bit x seen ∷ []) a) now,
    )
  where
    prompt : {p : List Entry} (w : Verdict) → EndsInBit p → IsPrompt p (entry_of w m)
    prompt ToStore h = h
    prompt ToLose h = h

pub verdict_stays : (v : Verdict) (m : List ℕ) (p : JournalPlace) →
    past p (entry_of v m) ≡ record p { bits = (past p (entry_of v m)).bits }
verdict_stays ToStore m p = refl
verdict_stays ToLose m p = refl

pub verdict_no_stop : (v : Verdict) (m : List ℕ) → marks_in (entry_of v m) ≡ 0
verdict_no_stop ToStore m = refl
verdict_no_stop ToLose m = refl

-- a verdict stands in order
pub verdict_orderly : (p : List Entry) (v : Verdict) (m : List ℕ) → IsRunning p → total is_off (put_of p) ≡ 0 →
    IsFair p (entry_of v m) → IsOrderly p (entry_of v m)
verdict_orderly p ToStore m runs none fair = (runs, none, fair)
verdict_orderly p ToLose m runs none fair = tt
