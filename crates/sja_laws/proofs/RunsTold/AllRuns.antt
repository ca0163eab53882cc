-- The journals of a run in one thread are told to their end.
use Rattle.std.proofs.Common.{◌≡◌, ◌<◌, ◌^◌, ℕ, zero, suc, List, [], ◌∷◌, length, map, refl, sym, ap, ◌∙◌, subst, arith}
use Rattle.std.specs.Prelude.{slice_index_or}
use Rattle.std.proofs.lemmas.List.{length-map}
use Rattle.sja_journal.specs.Carried.{bits_of}
use Rattle.sja_journal.specs.declared.entry.Entry.{Entry}
use Rattle.sja_journal.specs.Places.{place_of}
use Rattle.sja_journal.specs.Verdicts.{IsLawful}
use Rattle.sja_journal.proofs.JournalEntries.Entering.{bits_counted}
use Rattle.lemmas.specs.Picking.{EachAfter}
use Rattle.sja_plan.specs.Plan.{PlanValue}
use Rattle.sja_regs.specs.declared.registers.Registers.{Registers}
use Rattle.sja_driver.specs.StepRuns.{StepRun, step_runs_at, acts_in}
use Rattle.sja_driver.specs.TypedActs.{TypedAct}
use Rattle.sja_link.specs.Orderly.{AreOrderly}
use Rattle.sja_log.specs.Log.{NodeValue, RunValue, journals_in}
use Rattle.sja_promises.specs.Registering.{LeadTo}
use Rattle.sja_promises.specs.Runs.{IsSerialRun}
use Rattle.sja_promises.proofs.NodeLog.Logs.{journal_there}
use Rattle.sja_promises.proofs.Trace.StepRunActs.{forget}
use Rattle.sja_replay.specs.declared.bit_event.BitEvent.{BitEvent}
use Rattle.sja_replay.specs.Happened.{Happened}
use Rattle.sja_laws.proofs.RunsTold.Runs.{Fits, all_told, some_told}
use Rattle.sja_replay.specs.Stored.{AllStored}

-- of each node's steps the acts
at_node : (step_runs : List (List StepRun)) (k : ℕ) →
    slice_index_or (map (λ (l : List StepRun). acts_in l) step_runs) k [] ≡ acts_in (step_runs_at step_runs k)
at_node [] k = refl
at_node (l ∷ step_runs) zero = refl
at_node (l ∷ step_runs) (suc k) = at_node step_runs k

module _ (plan : PlanValue) (log : RunValue) (h : IsSerialRun plan log) (k : ℕ) (d : NodeValue)
    (less : k < length log.nodes) where
  abbrev pub journal : List Entry
  journal = (slice_index_or log.nodes k d).journal

  there : k < length (journals_in log)
  there = let many = length-map log.nodes (λ (n : NodeValue). n.journal) in omega (arith, many, less)

  pub lawful : IsLawful journal
  lawful = subst (λ (j : List Entry). IsLawful j) (journal_there log.nodes k d less) (h.run.bus.lawful k there)

  pub orderly : AreOrderly journal
  orderly = subst (λ (j : List Entry). AreOrderly j) (journal_there log.nodes k d less) (h.run.bus.orderly k there)

  -- it has as many bits as were run
  pub bits_run : (place_of journal).bits ≡ log.bits
  bits_run = bits_counted journal ∙ ap (λ (j : List Entry). length (bits_of j))
      (sym (journal_there log.nodes k d less)) ∙ h.run.bus.wired.count k there

  -- its acts have led to it, each of which fits the driver's state
  acts_led : (p : Registers) × LeadTo plan.version journal (acts_in (step_runs_at h.step_runs k)) p
      × EachAfter (Fits plan.version) [] (acts_in (step_runs_at h.step_runs k))
  acts_led =
      let r = h.registers k d less in
      let P : List TypedAct → Type 0 = λ l. EachAfter (Fits plan.version) [] l in (
        r.1,
        forget plan.version journal (step_runs_at h.step_runs k) r.0 r.1 r.2,
        subst P (at_node h.step_runs k) (h.run.nodes k d less).trace.answered.states,
      )

  -- it has bit events
  pub told_there : log.bits < 2 ^ 32 → (hs : List BitEvent) × Happened [] journal hs
  told_there few =
      let n = bits_run in
      let led = acts_led in
      some_told journal lawful.found lawful.cut (lawful.verdicts lawful.found lawful.cut) orderly
      (omega (arith, few, n)) plan.version (acts_in (step_runs_at h.step_runs k)) led.0 led.1 led.2

  told_all : log.bits < 2 ^ 32 → (hs : List BitEvent) → Happened [] journal hs →
      (length hs ≡ (place_of journal).bits) × AllStored journal hs
  told_all few hs x =
      let n = bits_run in
      let led = acts_led in
      all_told journal lawful.found lawful.cut (lawful.verdicts lawful.found lawful.cut) orderly (omega (arith, few, n))
      plan.version (acts_in (step_runs_at h.step_runs k)) led.0 led.1 led.2 hs x

  -- and each of them is told
  pub bits_told : log.bits < 2 ^ 32 → (hs : List BitEvent) → Happened [] journal hs → length hs ≡ log.bits
  bits_told few hs x = (told_all few hs x).0 ∙ bits_run

  -- with each message that was stored
  pub stores_told : log.bits < 2 ^ 32 → (hs : List BitEvent) → Happened [] journal hs → AllStored journal hs
  stores_told few hs x = (told_all few hs x).1
