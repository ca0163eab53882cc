-- The headline, by what bus, link and driver keep.
use Rattle.std.proofs.Common.{◌≡◌, ℕ, ◌+◌, ◌≤◌, Option, List, ◌++◌, length, sym, ap, ◌∙◌, subst, arith}
use Rattle.std.specs.Prelude.{slice_index_or}
use Rattle.can_frame.specs.declared.filter.Filter.{Filter}
use Rattle.sja_journal.specs.NodeWords.{FinishedPiece, received}
use Rattle.sja_journal.specs.declared.entry.Entry.{Entry}
use Rattle.sja_journal.specs.Places.{place_of}
use Rattle.sja_journal.specs.Parts.{part}
use Rattle.sja_journal.specs.Judged.{judged_in, kept}
use Rattle.lemmas.specs.Picking.{Picks}
use Rattle.sja_journal.specs.Verdicts.{IsAccepted, IsOn, HasVerdicts, IsLawful}
use Rattle.sja_journal.proofs.Ledger.Judging.{kept_stored}
use Rattle.sja_link.proofs.Ledger.Holding.{told_stored}
use Rattle.sja_journal.proofs.JournalEntries.Openings.{part_opens, filter_opens}
use Rattle.sja_log.specs.Log.{ActivationValue, NodeValue}
use Rattle.sja_promises.specs.Settling.{IsSettled, AreSettled}
use Rattle.sja_promises.specs.Headline.{Headline, IsAccount}

-- what was released, and then what was left unread, is what was judged, less what was marked overrun
pub told_by : (j : List Entry) (a : ℕ) (act : ActivationValue) → IsSettled j a act → act.released
    ++ act.unread ≡ kept (judged_in j a)
told_by j a act h =
    ap (λ l. act.released ++ l) h.unread ∙ told_stored j a h.driver h.down act.released h.held h.put h.holds
    ∙ sym (kept_stored j a)

-- the headline of an activation that has begun
pub headline_of : (found : List FinishedPiece) (j : List Entry) (a : ℕ) (act : ActivationValue) →
    HasVerdicts j (received found) → 1 ≤ a →
    a ≤ (place_of j).activation → IsSettled j a act → Headline found j a act
headline_of found j a act verdicts some begun settled =
    let o = part_opens j a some begun in
    let P : Option Filter → Type 0 = λ f. Picks (IsAccepted a f) IsOn (received found) (judged_in j a) in record {
      config = o.config;
      rest = o.rest;
      opens = o.opens;
      judged = subst P (filter_opens (part j a) o) (verdicts.are a);
      due = verdicts.due a;
      told = told_by j a act settled;
    }

-- a node whose journal is lawful, and whose activations have begun and are settled
pub account_of : (node : NodeValue) → IsLawful node.journal →
    length node.activations ≤ (place_of node.journal).activation →
    AreSettled node → IsAccount node
account_of node lawful begun settled = record {
  found = lawful.found;
  cut = lawful.cut;
  headline = λ others a d cut few.
      headline_of others node.journal (a + 1) (slice_index_or node.activations a d) (lawful.verdicts others cut)
      (omega arith) (omega (arith, begun, few)) (settled a d few);
}
