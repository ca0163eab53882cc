-- The log of a run in one thread, by what its bus leaves and what drivers and links hold at the end.
use Rattle.std.proofs.Common.{◌≡◌, ℕ, ◌+◌, ◌<◌, List, length, map, sym, ap}
use Rattle.std.proofs.Common.{◌∙◌, subst, arith}
use Rattle.std.specs.Prelude.{slice_index_or}
use Rattle.sja_journal.specs.declared.entry.Entry.{Entry}
use Rattle.sja_journal.specs.declared.down.Down.{Down}
use Rattle.sja_link.specs.Deques.{Deques, down_on}
use Rattle.sja_bus_rules.specs.declared.node_log.NodeLog.{NodeLog}
use Rattle.sja_bus_rules.specs.Lawful.{CountersAre, IsBusRun}
use Rattle.sja_bus_rules.specs.Wire.{journal_at}
use Rattle.sja_plan.specs.Plan.{PlanValue, steps_at}
use Rattle.sja_regs.specs.declared.registers.Registers.{Registers}
use Rattle.sja_regs.specs.Registers.{at_power_on}
use Rattle.sja_driver.specs.declared.logged_driver.LoggedDriver.{LoggedDriver}
use Rattle.sja_driver.specs.TypedActs.{TypedAct, acts_at}
use Rattle.sja_driver.specs.LoggedDrivers.{kept_of}
use Rattle.sja_log.specs.declared.end.End.{End}
use Rattle.sja_driver.specs.InTime.{IsInTime}
use Rattle.sja_promises.specs.Registering.{StepRunsLeadTo}
use Rattle.sja_log.specs.Log.{NodeValue, RunValue}
use Rattle.sja_promises.specs.Runs.{IsTrace, AreFirst as AreFirstSteps}
use Rattle.sja_promises.specs.Settling.{IsSettled, AreSettled}
use Rattle.sja_driver.proofs.Trace.Stepping.{given_taken}
use Rattle.sja_promises.specs.Nodes.{IsNode}
use Rattle.sja_serial.specs.Serial.{Setup, SerialValue, StandsAt, StandsBy, HasStepRuns, all_acts, most_steps}
use Rattle.sja_serial.proofs.TypedActs.Parts.{all_at}
use Rattle.sja_driver.specs.declared.unmodelled_registers.UnmodelledRegisters.{UnmodelledRegisters}
use Rattle.sja_driver.specs.StepRuns.{StepRun, step_runs_at, acts_in}
use Rattle.sja_promises.specs.Finishing.{activation_after, IsNodeEnd, AreNodeEnds}
use Rattle.sja_serial.specs.Ending.{IsLogOf, MayBeOf}
use Rattle.sja_promises.proofs.NodeLog.NodeEnds.{AreEnds, trace_of, settled_of, nodes_count, some_driver, node_end}
use Rattle.sja_promises.proofs.NodeLog.NodeEnds.{journal_is, journals_in_log, run_of_ends}
use Rattle.sja_serial.proofs.AllNodes.Several.{some_links}
use Rattle.sja_serial.proofs.WholeRun.AccountsNow.{settled_now}

-- ---- one node

module _ (version size : ℕ) (j : List Entry) (acts : List TypedAct) (driver : LoggedDriver)
    (port : Registers) (links : Deques) (h : IsNode version size j acts driver port links)
    (down : ℕ → List Down) (left : (a : ℕ) → down a ≡ down_on links a)
    (log : NodeLog) (node : NodeValue) (end : IsNodeEnd log driver down node) (same : node.journal ≡ j) where
  trace_at : IsTrace version node acts
  trace_at = trace_of j acts driver down log node end same version h.traced.traces
      (λ a. given_taken acts j a (h.in_time.when a))

  settled_at : AreSettled node
  settled_at =
      settled_of j acts driver down log node end same (λ a few.
      subst (λ (l : List Down). IsSettled j (a + 1) (activation_after driver l a)) (sym (left (a + 1)))
      (settled_now version size j acts driver port links h a))

-- ---- all nodes

module _ (plan : PlanValue) (r : SerialValue) (step_runs : List (List StepRun)) (end : End) (log : RunValue)
    (logs : List NodeLog) (setup : Setup) (by : StandsBy setup r step_runs) (is : MayBeOf plan setup step_runs)
    (version : log.version ≡ setup.version) (bits : log.bits ≡ r.bits)
    (ends : log.end ≡ end) (down : ℕ → ℕ → List Down)
    (left : (k a : ℕ) (l : Deques) → k < length r.links → down k a ≡ down_on (slice_index_or r.links k l) a)
    (all : AreNodeEnds logs r.drivers down (length r.drivers) log.nodes)
    (journals : map (λ (g : NodeLog). g.journal.entries) logs ≡ r.bus.journals)
    (bus : IsBusRun r.bus.script r.bus.run (map (λ (g : NodeLog). g.journal.entries) logs))
    (counters : (k : ℕ) (g : NodeLog) → k < length logs →
    CountersAre (slice_index_or logs k g).journal.entries (slice_index_or logs k g).txerr
    (slice_index_or logs k g).rxerr) where
  abbrev acts : List (List TypedAct)
  acts = all_acts step_runs

  h : StandsAt setup r acts
  h = by.stands

  are : AreEnds plan log logs r.bus.journals r.drivers down
  are = record {
    nodes = all;
    drivers_count = h.count.drivers ∙ is.nodes;
    journals_count = h.count.journals ∙ is.nodes;
    journals_are = journals;
    counters = counters;
  }

  module _ (k : ℕ) (n : NodeValue) (less : k < length log.nodes) where
    abbrev driver : LoggedDriver
    driver = slice_index_or r.drivers k
        (some_driver plan log logs r.bus.journals r.drivers down are k n less)

    in_plan : k < length plan.nodes
    in_plan = let c = nodes_count plan log logs r.bus.journals r.drivers down are in
        omega (arith, c, less)

    node_is : IsNode plan.version (slice_index_or setup.steps k 0) (journal_at r.bus.journals k) (acts_at acts k)
        driver (slice_index_or r.ports k (at_power_on 1)) (slice_index_or r.links k some_links)
    node_is = let l = in_plan in let m = is.nodes in
        subst (λ (v : ℕ). IsNode v (slice_index_or setup.steps k 0) (journal_at r.bus.journals k) (acts_at acts k)
        driver (slice_index_or r.ports k (at_power_on 1)) (slice_index_or r.links k some_links)) is.version
        (h.nodes k (some_driver plan log logs r.bus.journals r.drivers down are k n less) (at_power_on 1) some_links
        (omega (arith, l, m)))

    left_there : (a : ℕ) → down k a ≡ down_on (slice_index_or r.links k some_links) a
    left_there a = let l = in_plan in let m = is.nodes in let c = h.ends.count in
        left k a some_links (omega (arith, l, m, c))

    same : (slice_index_or log.nodes k n).journal ≡ journal_at r.bus.journals k
    same = journal_is plan log logs r.bus.journals r.drivers down are k n less

    trace_there : IsTrace plan.version (slice_index_or log.nodes k n) (acts_at acts k)
    trace_there = trace_at plan.version _ (journal_at r.bus.journals k) (acts_at acts k) driver _
        _ node_is (down k) left_there _ (slice_index_or log.nodes k n)
        (node_end plan log logs r.bus.journals r.drivers down are k n less) same

    settled_there : AreSettled (slice_index_or log.nodes k n)
    settled_there = settled_at plan.version _ (journal_at r.bus.journals k) (acts_at acts k)
        driver _
        _ node_is (down k) left_there _ (slice_index_or log.nodes k n)
        (node_end plan log logs r.bus.journals r.drivers down are k n less) same

    in_time_there : IsInTime plan.version (slice_index_or log.nodes k n).journal (acts_in (step_runs_at step_runs k))
    in_time_there = subst (λ (j : List Entry). IsInTime plan.version j (acts_in (step_runs_at step_runs k))) (sym same)
        (subst (λ (l : List TypedAct). IsInTime plan.version (journal_at r.bus.journals k) l) (all_at step_runs k)
        node_is.in_time)

    has_step_runs : HasStepRuns setup.version (most_steps setup.version (slice_index_or setup.steps k 0))
        (journal_at r.bus.journals k) (step_runs_at step_runs k) driver (slice_index_or r.ports k (at_power_on 1))
    has_step_runs = let l = in_plan in let m = is.nodes in
        by.nodes k (some_driver plan log logs r.bus.journals r.drivers down are k n less) (at_power_on 1)
        (omega (arith, l, m))

    steps_there : AreFirstSteps (steps_at plan k) (slice_index_or log.nodes k n) (step_runs_at step_runs k)
    steps_there = record {
      first = is.first k in_plan;
      done = has_step_runs.done ∙ sym (node_end plan log logs r.bus.journals r.drivers down are k n less).done;
    }

    registers_there : (kept : UnmodelledRegisters) × (p : Registers)
        × StepRunsLeadTo plan.version (slice_index_or log.nodes k n).journal (step_runs_at step_runs k) kept p
    registers_there = (
      kept_of driver,
      slice_index_or r.ports k (at_power_on 1),
      subst (λ (j : List Entry). StepRunsLeadTo plan.version j (step_runs_at step_runs k) (kept_of driver)
          (slice_index_or r.ports k (at_power_on 1))) (sym same)
          (subst (λ (v : ℕ). StepRunsLeadTo v (journal_at r.bus.journals k) (step_runs_at step_runs k) (kept_of driver)
          (slice_index_or r.ports k (at_power_on 1))) is.version has_step_runs.led),
    )

  pub log_of_run : IsLogOf plan r step_runs end log
  log_of_run = record {
    run = run_of_ends plan log logs r.bus.journals r.drivers down are acts r.bus.script r.bus.run
        (version ∙ is.version) (h.script ∙ is.strikes) (bits ∙ h.bits) bus trace_there settled_there;
    bits = bits;
    ends = ends;
    journals = journals_in_log plan log logs r.bus.journals r.drivers down are;
    steps = steps_there;
    in_time = in_time_there;
    registers = registers_there;
  }
