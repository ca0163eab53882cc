use Rattle.std.proofs.Common.{◌≡◌, ℕ, ◌+◌, ◌<◌, ◌≤◌, arith, None, List, length, map, sym, subst, IfOk}
use Rattle.std.specs.Prelude.{slice_index_or}
use Rattle.std.proofs.lemmas.Result.{IfOk-weaker, on_ok_weaker, on_err_weaker}
use Rattle.sja_journal.specs.declared.entry.Entry.{Entry}
use Rattle.sja_bus_rules.specs.declared.node_log.NodeLog.{NodeLog}
use Rattle.sja_bus_rules.specs.Buses.{BusValue}
use Rattle.sja_bus_rules.specs.Lawful.{IsBusRun, CountersAre}
use Rattle.sja_journal.specs.Written.{Room}
use Rattle.sja_bus_rules.specs.WholeRecords.{KeepsRecord}
use Rattle.sja_bus_rules.specs.Reasons.{room_for}
use Rattle.sja_bus.proofs.AllNodes.Running.{bus_run, count_is}
use Rattle.sja_bus.proofs.AllNodes.UntilTold.{bus_node_at}
use Rattle.sja_bus.proofs.WholeBus.Logs.{logs_journals, logs_counters}
use Rattle.sja_bus.proofs.bus.Bus.finish.Goals as goal

pub returns-clause-journals : goal.returns-clause-journals
returns-clause-journals c =
    let b = c.self.inside in
    let P : BusValue → Type 0 = λ w. IfOk c.logs_of.result
    (λ logs. map (λ (g : NodeLog). g.journal.entries) logs.items ≡ w.journals) in
    subst P c.self.view_is
    (IfOk-weaker c.logs_of.result _ _ (λ logs are. logs_journals b.bus_nodes.items logs.items are)
    c.logs_of.ensures.logs)

pub returns-clause-lawful : goal.returns-clause-lawful
returns-clause-lawful c =
    let b = c.self.inside in
    let Q : List (List Entry) → Type 0 = λ l. IsBusRun b.struck.script b.run l in
    let P : BusValue → Type 0 = λ w. IfOk c.logs_of.result (λ logs. w.fault ≡ None → IsBusRun w.script w.run
    (map (λ (g : NodeLog). g.journal.entries) logs.items)) in
    subst P c.self.view_is (IfOk-weaker c.logs_of.result _ _ (λ logs are f. subst Q
    (sym (logs_journals b.bus_nodes.items logs.items are)) (bus_run b.struck.script b.run b.bus_nodes.items
    (c.self.invariant.0.bus f))) c.logs_of.ensures.logs)

pub returns-clause-counters : goal.returns-clause-counters
returns-clause-counters c =
    let b = c.self.inside in
    let P : BusValue → Type 0 = λ w. IfOk c.logs_of.result (λ logs. w.fault ≡ None → (node : ℕ) (d : NodeLog) → node <
    length logs.items →
    let log = slice_index_or logs.items node d in CountersAre log.journal.entries log.txerr log.rxerr) in
    subst P c.self.view_is (IfOk-weaker c.logs_of.result _ _ (λ logs are f node d few.
    logs_counters b.bus_nodes.items logs.items are
    (λ k s near. ((c.self.invariant.0.bus f).ready k s near).ready.sound.follows) node d few) c.logs_of.ensures.logs)

pub returns-clause-kept : goal.returns-clause-kept
returns-clause-kept c =
    let b = c.self.inside in let whole = c.self.invariant.0 in let count = count_is b.bus_nodes.items in
    let K : BusValue → Type 0 = λ w. KeepsRecord (w.run + w.left) w.steps (length w.journals) in
    let N : ℕ → ℕ → Type 0 = λ k m. (room_for m b.steps.items k).all ≤ 1099511627776 in
    let R : Room → Type 0 = λ r. r.all ≤ 1099511627776 in
    on_ok_weaker c.logs_of.result (λ kept. subst K c.self.view_is (λ k few.
    let near : k < length b.bus_nodes.items = omega (arith, few, count) in let s = bus_node_at b.bus_nodes.items k near
    in
    subst (N k) (sym whole.bits) (subst R (whole.rooms k s near) (kept k s near)))) c.logs_of.ensures.kept

pub returns-clause-endless : goal.returns-clause-endless
returns-clause-endless c =
    let b = c.self.inside in let whole = c.self.invariant.0 in let count = count_is b.bus_nodes.items in
    let K : BusValue → Type 0 = λ w. KeepsRecord (w.run + w.left) w.steps (length w.journals) in
    let N : ℕ → ℕ → Type 0 = λ k m. (room_for m b.steps.items k).all ≤ 1099511627776 in
    let R : Room → Type 0 = λ r. r.all ≤ 1099511627776 in
    on_err_weaker c.logs_of.result (λ no kept. no (λ k s few. subst R (sym (whole.rooms k s few))
    (subst (N k) whole.bits (subst K (sym c.self.view_is) kept k (omega (arith, few, count))))))
    c.logs_of.ensures.endless
