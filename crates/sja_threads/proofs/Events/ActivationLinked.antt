-- Some order of events leads to what the link of an activation carried.
use Rattle.std.proofs.Common.{◌≡◌, ℕ, ◌+◌, List, [], length, map, sym, ap, ◌∙◌, subst}
use Rattle.std.specs.Prelude.{slice_index_or}
use Rattle.sja_journal.specs.declared.up.Up.{Up}
use Rattle.sja_journal.specs.declared.entry.Entry.{Entry}
use Rattle.sja_journal.specs.Accounts.{Account, account}
use Rattle.sja_journal.specs.Verdicts.{IsLawful}
use Rattle.sja_journal.specs.Carried.{stored_of, put_of, taken_of}
use Rattle.sja_journal.specs.Lists.{Lists}
use Rattle.sja_journal.specs.Parts.{part}
use Rattle.lemmas.specs.Picking.{EachAfter}
use Rattle.sja_link.specs.World.{credits_of}
use Rattle.sja_journal.proofs.Ledger.StoredMessages.{AreMessages, stored_real}
use Rattle.sja_driver.specs.TypedActs.{TypedAct}
use Rattle.sja_driver.proofs.Step.CreditsGiven.{credits_in}
use Rattle.sja_link.specs.Orderly.{IsOrderly, AreOrderly}
use Rattle.sja_log.specs.Log.{ActivationValue, NodeValue}
use Rattle.sja_promises.specs.Runs.{IsTrace}
use Rattle.sja_promises.specs.Settling.{IsSettled}
use Rattle.sja_thread_promises.specs.Linked.{IsLinked, AreLinked}
use Rattle.sja_threads.proofs.Events.AlongPart.{linked_part}

abbrev lists_by : List Entry → ℕ → Account → List Up → Lists
lists_by j a driver given =
    record { put = put_of (part j a); taken = taken_of (part j a); got = driver.got; given = given }

linked_one : (j : List Entry) (a : ℕ) (now_active : ActivationValue) (h : IsSettled j a now_active) →
    credits_of (taken_of (part j a)) ≡ map (λ (m : List ℕ). length m) now_active.released →
    EachAfter IsOrderly [] (part j a) → AreMessages (stored_of (part j a)) → IsLinked (part j a) (account j a h.driver)
linked_one j a now_active h credits orderly real =
    subst (λ (l : List Up). IsLinked (part j a) (lists_by j a h.driver l)) (sym h.given)
    (linked_part (part j a) h.driver.got h.down now_active.released h.held orderly real h.put h.holds credits)

-- of each activation of a node whose driver's trace this is
pub linked_by : {version : ℕ} (acts : List TypedAct) (node : NodeValue) → IsTrace version node acts →
    IsLawful node.journal → AreOrderly node.journal → AreLinked node
linked_by acts node trace lawful orderly a d less settled =
    linked_one node.journal (a + 1) (slice_index_or node.activations a d) settled
    (ap credits_of (sym (trace.given (a + 1))) ∙ credits_in 0 [] acts (a + 1) trace.answered.gives
    ∙ trace.released a d less) (orderly (a + 1))
    (stored_real node.journal (a + 1) lawful)
