-- A whole run in one thread, by its turns and by its log.
use Rattle.std.proofs.Common.{◌≡◌, ◌<◌, List, [], length, map, sym, ap, ◌∙◌, subst, arith}
use Rattle.std.specs.Prelude.{replicate}
use Rattle.std.proofs.lemmas.List.{length-map, get_or-map, ext_get_or}
use Rattle.lemmas.proofs.Lists.{some_of}
use Rattle.sja_journal.specs.declared.entry.Entry.{Entry}
use Rattle.sja_plan.specs.Plan.{PlanValue}
use Rattle.sja_driver.specs.StepRuns.{StepRun, step_runs_at, step_record_of}
use Rattle.sja_log.specs.declared.end.End.{End}
use Rattle.sja_log.specs.Log.{NodeValue, RunValue}
use Rattle.sja_promises.specs.Runs.{IsSerialRun}
use Rattle.sja_promises.specs.Turns.{Acts, Progress, RunsTo}
use Rattle.sja_serial.specs.Serial.{SerialValue}
use Rattle.sja_serial.specs.Ending.{IsLogOf, progress}

module _ (plan : PlanValue) (r : SerialValue) (step_runs : List (List StepRun)) (end : End) (log : RunValue)
    (count : length step_runs ≡ length plan.nodes) (l : IsLogOf plan r step_runs end log)
    (turns : RunsTo (let a : Acts = record { plan = plan; journals = r.bus.journals; step_runs = step_runs } in a)
    (let p : Progress = record { bits = 0; done = replicate (length plan.nodes) 0 } in p) plan.turns
    (progress r step_runs)
    end) where
  -- as many steps are done as the log has
  steps_same : map (λ (ds : List StepRun). length ds) step_runs ≡ map (λ (n : NodeValue). length n.done) log.nodes
  steps_same =
      let m = length-map step_runs (λ (ds : List StepRun). length ds) in
      let n = length-map log.nodes (λ (x : NodeValue). length x.done) in
      let c = count in let e = l.run.count in
      ext_get_or 0 (map (λ (ds : List StepRun). length ds) step_runs) (map (λ (x : NodeValue). length x.done) log.nodes)
      (omega (arith, m, n, c, e)) (λ k less.
      let there : k < length step_runs = omega (arith, m, less) in
      let few : k < length log.nodes = omega (arith, there, c, e) in
      let some = some_of log.nodes 0 (omega (arith, few)) in
      get_or-map (λ (ds : List StepRun). length ds) step_runs k [] 0 there
      ∙ sym (length-map (step_runs_at step_runs k) step_record_of) ∙ ap (λ ds. length ds) (l.steps k some few).done
      ∙ sym (get_or-map (λ (x : NodeValue). length x.done) log.nodes k some 0 few))

  ends_there : progress r step_runs ≡ record {
    bits = log.bits;
    done = map (λ (n : NodeValue). length n.done) log.nodes;
  }
  ends_there = λ i. let p : Progress = record { bits = sym l.bits i; done = steps_same i } in p

  pub serial_of : IsSerialRun plan log
  serial_of =
      let first : Progress = record { bits = 0; done = replicate (length plan.nodes) 0 } in
      let last : Progress = record { bits = log.bits; done = map (λ (n : NodeValue). length n.done) log.nodes } in
      record {
        step_runs = step_runs;
        run = l.run;
        steps = l.steps;
        in_time = l.in_time;
        registers = l.registers;
        turns = subst (λ (js : List (List Entry)). RunsTo
            (let a : Acts = record { plan = plan; journals = js; step_runs = step_runs } in a) first plan.turns last
            log.end) (sym l.journals)
            (subst (λ (q : Progress). RunsTo (let a : Acts =
            record { plan = plan; journals = r.bus.journals; step_runs = step_runs } in a) first plan.turns q log.end)
            ends_there
            (subst (λ (e : End). RunsTo (let a : Acts =
            record { plan = plan; journals = r.bus.journals; step_runs = step_runs } in a) first plan.turns
            (progress r step_runs) e) (sym l.ends) turns));
      }
