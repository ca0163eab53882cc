-- The log of a run, by what its bus leaves, its drivers, and what lay on their links.
use Rattle.std.proofs.Common.{◌≡◌, ℕ, ◌+◌, ◌<◌, List, [], length, map, sym, ap, ◌∙◌, subst, arith}
use Rattle.std.specs.Prelude.{slice_index_or}
use Rattle.std.proofs.lemmas.List.{length-map, get_or-map, ext_get_or}
use Rattle.lemmas.proofs.Lists.{some_of}
use Rattle.sja_journal.specs.declared.entry.Entry.{Entry}
use Rattle.sja_journal.specs.declared.down.Down.{Down}
use Rattle.sja_journal.specs.Carried.{taken_of}
use Rattle.sja_journal.specs.Parts.{part}
use Rattle.sja_bus_rules.specs.declared.node_log.NodeLog.{NodeLog}
use Rattle.sja_bus_rules.specs.Lawful.{CountersAre, IsBusRun}
use Rattle.sja_bus_rules.specs.Wire.{journal_at}
use Rattle.sja_plan.specs.Plan.{PlanValue}
use Rattle.sja_steps.specs.declared.strike.Strike.{Strike}
use Rattle.sja_driver.specs.declared.logged_driver.LoggedDriver.{LoggedDriver}
use Rattle.sja_driver.specs.AnyDrivers.{opened_of}
use Rattle.sja_driver.specs.TypedActs.{TypedAct, given_in, acts_of, acts_at}
use Rattle.sja_driver.specs.LoggedDrivers.{driver_of, log_of}
use Rattle.sja_driver.specs.Logs.{Traces}
use Rattle.sja_log.specs.Log.{ActivationValue, NodeValue, RunValue, journals_in}
use Rattle.sja_promises.specs.Runs.{IsTrace, IsRun}
use Rattle.sja_promises.specs.Settling.{IsSettled, AreSettled}
use Rattle.sja_promises.proofs.NodeLog.Logs.{journal_there, run_of}
use Rattle.sja_promises.specs.Finishing.{activation_after, IsNodeEnd, AreNodeEnds}

-- ---- one node

module _ (j : List Entry) (acts : List TypedAct) (driver : LoggedDriver) (down : ℕ → List Down)
    (log : NodeLog) (node : NodeValue) (end : IsNodeEnd log driver down node) (same : node.journal ≡ j) where
  -- its trace, by its driver's, where all that was given was taken
  pub trace_of : (version : ℕ) → Traces version (driver_of driver) (log_of driver) acts →
      ((a : ℕ) → given_in (acts_of acts a) ≡ taken_of (part j a)) → IsTrace version node acts
  trace_of version traces given = record {
    answered = traces.answered;
    opened = end.activations.count_is ∙ sym traces.opened;
    given = λ a. given a ∙ ap (λ (l : List Entry). taken_of (part l a)) (sym same);
    released = λ a d less.
        let few : a < opened_of (driver_of driver) = let c = end.activations.count_is in omega (arith, c, less) in
        sym (traces.released (a + 1))
        ∙ ap (λ (x : ActivationValue). map (λ (m : List ℕ). length m) x.released)
        (sym (end.activations.each a d few));
  }

  -- its activations are settled, where what is told of each is
  pub settled_of : ((a : ℕ) → a < opened_of (driver_of driver) →
      IsSettled j (a + 1) (activation_after driver (down (a + 1)) a)) → AreSettled node
  settled_of settled a d less =
      let few : a < opened_of (driver_of driver) = let c = end.activations.count_is in omega (arith, c, less) in
      subst (λ (l : List Entry). IsSettled l (a + 1) (slice_index_or node.activations a d)) (sym same)
      (subst (λ (x : ActivationValue). IsSettled j (a + 1) x) (sym (end.activations.each a d few)) (settled a few))

-- ---- all nodes

-- the nodes of a log are those of the bus with these journals, of these drivers, and of what lay on their links
pub record AreEnds (plan : PlanValue) (log : RunValue) (logs : List NodeLog) (journals : List (List Entry))
    (drivers : List LoggedDriver) (down : ℕ → ℕ → List Down) : Type 0 where
  pub nodes : AreNodeEnds logs drivers down (length drivers) log.nodes
  pub drivers_count : length drivers ≡ length plan.nodes
  pub journals_count : length journals ≡ length plan.nodes
  pub journals_are : map (λ (g : NodeLog). g.journal.entries) logs ≡ journals
  pub counters : (k : ℕ) (g : NodeLog) → k < length logs →
      CountersAre (slice_index_or logs k g).journal.entries (slice_index_or logs k g).txerr
      (slice_index_or logs k g).rxerr

module _ (plan : PlanValue) (log : RunValue) (logs : List NodeLog) (journals : List (List Entry))
    (drivers : List LoggedDriver) (down : ℕ → ℕ → List Down)
    (h : AreEnds plan log logs journals drivers down) where
  pub nodes_count : length log.nodes ≡ length plan.nodes
  nodes_count = h.nodes.count_is ∙ h.drivers_count

  logs_count : length logs ≡ length plan.nodes
  logs_count = sym (length-map logs (λ (g : NodeLog). g.journal.entries))
      ∙ ap (λ (l : List (List Entry)). length l) h.journals_are ∙ h.journals_count

  module _ (k : ℕ) (n : NodeValue) (less : k < length log.nodes) where
    in_plan : k < length plan.nodes
    in_plan = let c = nodes_count in omega (arith, c, less)

    pub some_log : NodeLog
    some_log = let c = logs_count in let i = in_plan in some_of logs 0 (omega (arith, c, i))

    pub some_driver : LoggedDriver
    some_driver = let c = h.drivers_count in let i = in_plan in some_of drivers 0 (omega (arith, c, i))

    pub node_end : IsNodeEnd (slice_index_or logs k some_log) (slice_index_or drivers k some_driver) (down k)
        (slice_index_or log.nodes k n)
    node_end = let c = h.drivers_count in let i = in_plan in
        h.nodes.each k some_log some_driver n (omega (arith, c, i))

    pub journal_is : (slice_index_or log.nodes k n).journal ≡ journal_at journals k
    journal_is =
        let c = logs_count in let i = in_plan in
        node_end.journal
        ∙ sym (get_or-map (λ (g : NodeLog). g.journal.entries) logs k some_log [] (omega (arith, c, i)))
        ∙ ap (λ (l : List (List Entry)). journal_at l k) h.journals_are

    counters_at : CountersAre (slice_index_or log.nodes k n).journal (slice_index_or log.nodes k n).txerr
        (slice_index_or log.nodes k n).rxerr
    counters_at =
        let c = logs_count in let i = in_plan in let node = slice_index_or log.nodes k n in
        let g = slice_index_or logs k some_log in
        subst (λ (j : List Entry). CountersAre j node.txerr node.rxerr) (sym node_end.journal)
        (subst (λ (t : ℕ). CountersAre g.journal.entries t node.rxerr) (sym node_end.txerr)
        (subst (λ (t : ℕ). CountersAre g.journal.entries g.txerr t) (sym node_end.rxerr)
        (h.counters k some_log (omega (arith, c, i)))))

  pub journals_in_log : journals_in log ≡ journals
  journals_in_log =
      let many = length-map log.nodes (λ (n : NodeValue). n.journal) in let c = nodes_count in
      let e = h.journals_count in
      ext_get_or [] (journals_in log) journals (omega (arith, many, c, e)) (λ k less.
      let few : k < length log.nodes = omega (arith, many, less) in
      let some = some_of log.nodes 0 (omega (arith, few)) in
      journal_there log.nodes k some few ∙ journal_is k some few)

  -- with the trace of each driver, and with activations that are settled, it is what every run promises
  pub run_of_ends : (acts : List (List TypedAct)) (script : List Strike) (run : ℕ) → log.version ≡ plan.version →
      script ≡ plan.strikes → log.bits ≡ run →
      IsBusRun script run (map (λ (g : NodeLog). g.journal.entries) logs) →
      ((k : ℕ) (n : NodeValue) → k < length log.nodes →
      IsTrace plan.version (slice_index_or log.nodes k n) (acts_at acts k)) →
      ((k : ℕ) (n : NodeValue) → k < length log.nodes → AreSettled (slice_index_or log.nodes k n)) →
      IsRun plan log acts
  run_of_ends acts script run version strikes bits bus traces settled =
      let now : IsBusRun plan.strikes log.bits (journals_in log) =
      subst (λ (l : List (List Entry)). IsBusRun plan.strikes log.bits l) (h.journals_are ∙ sym journals_in_log)
      (subst (λ (b : ℕ). IsBusRun plan.strikes b (map (λ (g : NodeLog). g.journal.entries) logs)) (sym bits)
      (subst (λ (s : List Strike). IsBusRun s run (map (λ (g : NodeLog). g.journal.entries) logs)) strikes bus)) in
      run_of plan log acts version nodes_count now counters_at traces settled
