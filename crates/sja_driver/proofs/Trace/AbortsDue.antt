-- Aborts that a driver asked for, with an entry or an act more.
use Rattle.std.proofs.Common.{List, [], ◌∷◌, ◌++◌, ap, ◌∙◌, append_assoc}
use Rattle.sja_journal.specs.declared.entry.Entry.{Entry}
use Rattle.sja_journal.specs.declared.entry.Entry.TheVariants.{Bit, Up as Item, Abort, Stored, Overrun, Off}
use Rattle.lemmas.specs.Picking.{EachAfter}
use Rattle.lemmas.proofs.Picking.{each_push}
use Rattle.sja_driver.specs.TypedActs.{TypedAct}
use Rattle.sja_driver.specs.Aborting.{IsCommanded, AbortIsDue}

-- a log that goes on keeps what was commanded
pub commanded_on : (steps : List TypedAct) (d : TypedAct) (before : List Entry) → IsCommanded steps before →
    IsCommanded (steps ++ d ∷ []) before
commanded_on steps d before h = record {
  early = h.early;
  command = h.command;
  late = h.late ++ d ∷ [];
  whole = ap (λ l. l ++ d ∷ []) h.whole ∙ append_assoc h.early (h.command ∷ h.late) (d ∷ []);
  is_abort = h.is_abort;
  by_then = h.by_then;
  later = h.later;
}

due_on : (steps : List TypedAct) (d : TypedAct) (before : List Entry) (e : Entry) → AbortIsDue steps before e →
    AbortIsDue (steps ++ d ∷ []) before e
due_on steps d before Abort h = commanded_on steps d before h
due_on steps d before (Bit driven seen) h = tt
due_on steps d before (Item u) h = tt
due_on steps d before (Stored m) h = tt
due_on steps d before (Overrun m) h = tt
due_on steps d before Off h = tt

pub aborts_on : (steps : List TypedAct) (d : TypedAct) (before es : List Entry) →
    EachAfter (AbortIsDue steps) before es →
    EachAfter (AbortIsDue (steps ++ d ∷ [])) before es
aborts_on steps d before [] h = tt
aborts_on steps d before (e ∷ es) h = (due_on steps d before e h.0, aborts_on steps d (before ++ e ∷ []) es h.1)

pub aborts_push : (steps : List TypedAct) (j : List Entry) (e : Entry) → EachAfter (AbortIsDue steps) [] j →
    AbortIsDue steps j e → EachAfter (AbortIsDue steps) [] (j ++ e ∷ [])
aborts_push steps j e h due = each_push (AbortIsDue steps) [] j e h due
