-- The log of a run that is over, by what its bus and its drivers handed back.
use Rattle.std.proofs.Common.{◌≡◌, ℕ, ◌<◌, List, length, map, sym, ap, ◌∙◌, subst, arith}
use Rattle.std.specs.Prelude.{slice_index_or}
use Rattle.std.proofs.lemmas.List.{get_or-map, length-map}
use Rattle.lemmas.proofs.Lists.{some_of}
use Rattle.sja_journal.specs.declared.entry.Entry.{Entry}
use Rattle.sja_journal.specs.declared.down.Down.{Down}
use Rattle.sja_link.specs.declared.older_down.OlderDown.{OlderDown}
use Rattle.sja_journal.specs.Verdicts.{IsLawful as IsLawfulJournal}
use Rattle.sja_rings.specs.declared.node_bus.NodeBus.{NodeBus}
use Rattle.sja_rings.specs.declared.node_driver.NodeDriver.{NodeDriver}
use Rattle.sja_bus_rules.specs.declared.node_log.NodeLog.{NodeLog}
use Rattle.sja_bus_rules.specs.Buses.{BusValue}
use Rattle.sja_bus_rules.specs.Lawful.{CountersAre, IsBusRun}
use Rattle.sja_link.specs.Orderly.{AreOrderly}
use Rattle.sja_bus_rules.specs.Wire.{journal_at}
use Rattle.sja_regs.specs.DriverSettings.{settings_in}
use Rattle.sja_regs.specs.Registers.{at_power_on}
use Rattle.sja_plan.specs.Plan.{PlanValue}
use Rattle.sja_driver.specs.declared.logged_driver.LoggedDriver.{LoggedDriver}
use Rattle.sja_driver.specs.TypedActs.{TypedAct, acts_at}
use Rattle.sja_driver.specs.LoggedDrivers.{log_of}
use Rattle.sja_driver.specs.Logs.{done_in}
use Rattle.sja_log.specs.declared.end.End.{End}
use Rattle.sja_log.specs.Log.{NodeValue, RunValue}
use Rattle.sja_promises.specs.Runs.{IsTrace, IsRun}
use Rattle.sja_promises.specs.Settling.{AreSettled}
use Rattle.sja_promises.specs.Finishing.{IsNodeEnd, AreNodeEnds}
use Rattle.sja_promises.specs.LeftDown.{left_of}
use Rattle.sja_promises.proofs.NodeLog.NodeEnds.{AreEnds, trace_of, settled_of, nodes_count, some_log, some_driver}
use Rattle.sja_promises.proofs.NodeLog.NodeEnds.{node_end, journal_is, journals_in_log, run_of_ends}
use Rattle.sja_threads.specs.declared.handover.Handover.{Handover}
use Rattle.sja_threads.specs.Inside.Ended.{IsOverAt, IsOver}
use Rattle.sja_threads.specs.Inside.Settling.{all_drivers, all_ends, IsLeftOnAll, AreLeftOn, IsSettledLog}
use Rattle.sja_threads.proofs.Events.ActivationLinked.{linked_by}
use Rattle.sja_threads.proofs.End.NodeOver.{given_all, settled_all}
use Rattle.sja_threads.proofs.End.LinksOver.{end_at, joined_over}

-- what the log of a run that is over is made of
pub record AreLogParts (plan : PlanValue) (bus : BusValue) (links : List NodeBus) (workeds : List (Handover NodeDriver))
    (end : End) (log : RunValue) (logs : List NodeLog) (lists : List (List OlderDown)) : Type 0 where
  pub version : log.version ≡ plan.version
  pub bits : log.bits ≡ bus.run
  pub ends : log.end ≡ end
  pub nodes : AreNodeEnds logs (all_drivers workeds) (λ k a. left_of lists k a) (length (all_drivers workeds)) log.nodes
  pub left : AreLeftOn links (all_ends workeds) (length links) lists
  pub journals : map (λ (g : NodeLog). g.journal.entries) logs ≡ bus.journals
  pub lawful : IsBusRun bus.script bus.run (map (λ (g : NodeLog). g.journal.entries) logs)
  pub counters : (k : ℕ) (g : NodeLog) → k < length logs →
      CountersAre (slice_index_or logs k g).journal.entries (slice_index_or logs k g).txerr
      (slice_index_or logs k g).rxerr

module _ (plan : PlanValue) (bus : BusValue) (links : List NodeBus) (workeds : List (Handover NodeDriver)) (end : End)
    (log : RunValue) (logs : List NodeLog) (lists : List (List OlderDown))
    (m : AreLogParts plan bus links workeds end log logs lists) (acts : List (List TypedAct))
    (h : IsOver plan bus links workeds acts) where
  -- what lies on the links, by node and activation
  abbrev down : ℕ → ℕ → List Down
  down k a = left_of lists k a

  are : AreEnds plan log logs bus.journals (all_drivers workeds) down
  are = record {
    nodes = m.nodes;
    drivers_count = length-map workeds (λ (w : Handover NodeDriver). w.driver) ∙ h.workeds_count;
    journals_count = h.journals_count;
    journals_are = m.journals;
    counters = m.counters;
  }

  module _ (k : ℕ) (n : NodeValue) (less : k < length log.nodes) where
    in_plan : k < length plan.nodes
    in_plan =
        let c = nodes_count plan log logs bus.journals (all_drivers workeds) down are in omega (arith, c, less)

    in_workeds : k < length workeds
    in_workeds = let c = h.workeds_count in let i = in_plan in omega (arith, c, i)

    some : Handover NodeDriver
    some = let i = in_workeds in some_of workeds 0 (omega (arith, i))

    abbrev handed : Handover NodeDriver
    handed = slice_index_or workeds k some

    some_bus : NodeBus
    some_bus = let i = in_plan in let c = h.links_count in some_of links k (omega (arith, i, c))

    abbrev end_of_bus : NodeBus
    end_of_bus = slice_index_or links k some_bus

    over : IsOverAt (settings_in (at_power_on plan.version)) k (journal_at bus.journals k) (acts_at acts k) handed
        end_of_bus
    over = h.nodes k some_bus some in_plan

    left_there : IsLeftOnAll end_of_bus handed.end (down k)
    left_there =
        let i = in_plan in let c = h.links_count in
        subst (λ (d : NodeDriver). IsLeftOnAll end_of_bus d (down k))
        (end_at (length plan.nodes) links workeds (joined_over plan bus links workeds acts h) k some handed.end
        in_plan) (m.left.each k some_bus handed.end (omega (arith, i, c)))

    driver_is : (d : LoggedDriver) → slice_index_or (all_drivers workeds) k d ≡ handed.driver
    driver_is d = get_or-map (λ (w : Handover NodeDriver). w.driver) workeds k some d in_workeds

    abbrev journal : List Entry
    journal = journal_at bus.journals k

    abbrev there : NodeValue
    there = slice_index_or log.nodes k n

    abbrev of_bus : NodeLog
    of_bus = slice_index_or logs k (some_log plan log logs bus.journals (all_drivers workeds) down are k n less)

    end_there : IsNodeEnd of_bus handed.driver (down k) there
    end_there =
        subst (λ (d : LoggedDriver). IsNodeEnd of_bus d (down k) there)
        (driver_is (some_driver plan log logs bus.journals (all_drivers workeds) down are k n less))
        (node_end plan log logs bus.journals (all_drivers workeds) down are k n less)

    same : there.journal ≡ journal
    same = journal_is plan log logs bus.journals (all_drivers workeds) down are k n less

    trace_there : IsTrace plan.version there (acts_at acts k)
    trace_there = trace_of journal (acts_at acts k) handed.driver (down k) _ there end_there same plan.version
        over.traces
        (given_all (settings_in (at_power_on plan.version)) k journal (acts_at acts k) handed end_of_bus over (down k)
        left_there)

    settled_there : AreSettled there
    settled_there = settled_of journal (acts_at acts k) handed.driver (down k) _ there end_there same
        (λ a less.
        settled_all (settings_in (at_power_on plan.version)) k journal (acts_at acts k) handed end_of_bus over
        (down k) left_there a)

    bus_there : IsBusRun bus.script bus.run bus.journals
    bus_there = subst (λ (l : List (List Entry)). IsBusRun bus.script bus.run l) m.journals m.lawful

    in_journals : k < length bus.journals
    in_journals = let c = h.journals_count in let i = in_plan in omega (arith, c, i)

    lawful_there : IsLawfulJournal there.journal
    lawful_there = subst (λ (j : List Entry). IsLawfulJournal j) (sym same) (bus_there.lawful k in_journals)

    orderly_there : AreOrderly there.journal
    orderly_there = subst (λ (j : List Entry). AreOrderly j) (sym same) (bus_there.orderly k in_journals)

    done_there : (w : Handover NodeDriver) → there.done ≡ done_in (log_of (slice_index_or workeds k w).driver)
    done_there w =
        end_there.done
        ∙ ap (λ (d : LoggedDriver). done_in (log_of d))
        (sym (get_or-map (λ (x : Handover NodeDriver). x.driver) workeds k some handed.driver in_workeds)
        ∙ get_or-map (λ (x : Handover NodeDriver). x.driver) workeds k w handed.driver in_workeds)

  pub run_over : IsRun plan log acts
  run_over =
      run_of_ends plan log logs bus.journals (all_drivers workeds) down are acts bus.script bus.run m.version
      h.script m.bits m.lawful trace_there settled_there

  pub log_over : IsSettledLog bus workeds end log
  log_over = record {
    bits = m.bits;
    ends = m.ends;
    journals = journals_in_log plan log logs bus.journals (all_drivers workeds) down are;
    done = λ node n w less. done_there node n less w;
    linked = λ node n less. linked_by (acts_at acts node) (slice_index_or log.nodes node n)
        (trace_there node n less) (lawful_there node n less) (orderly_there node n less);
  }
