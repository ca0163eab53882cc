use Rattle.std.proofs.Common.{rules, ◌≡◌, ℕ, List, ◌<◌, length, sym, ap, ◌∙◌, subst, arith}
use Rattle.std.specs.Prelude.{slice_index_or}
use Rattle.sja_journal.specs.declared.down.Down.{Down}
use Rattle.sja_link.specs.declared.older_down.OlderDown.{OlderDown}
use Rattle.sja_link.specs.Deques.{Deques, down_on}
use Rattle.sja_regs.specs.Registers.{at_power_on}
use Rattle.sja_driver.specs.declared.logged_driver.LoggedDriver.{LoggedDriver}
use Rattle.sja_driver.specs.StepRuns.{StepRun}
use Rattle.sja_driver.specs.LoggedDrivers.{IsLawful}
use Rattle.sja_plan.specs.Plan.{PlanValue}
use Rattle.sja_log.specs.Log.{NodeValue, RunValue}
use Rattle.sja_promises.specs.Finishing.{AreNodeEnds, KeepLogs}
use Rattle.sja_promises.specs.LeftDown.{left_of, IsLeft, KeepOlder}
use Rattle.sja_serial.specs.Ending.{IsLogOf, MayBeOf}
use Rattle.sja_serial.specs.LoggedRuns.{KeepsRun}
use Rattle.sja_serial.specs.Serial.{SerialValue, StandsAt, StandsBy, all_acts}
use Rattle.sja_serial.specs.Inside.SerialProgress.{run_now}
use Rattle.sja_serial.proofs.WholeRun.Ended.{log_of_run}
use Rattle.sja_serial.proofs.AllNodes.Several.{some_links}
use Rattle.sja_serial.proofs.serial_run.SerialRun.finish.Goals as goal

pub node_runs-requires-clause-lawful : goal.node_runs-requires-clause-lawful
node_runs-requires-clause-lawful g c =
    let b = c.self.inside in
    let now = run_now b.bus b.drivers.items b.board.ports.items b.links.items b.bits in
    let acts = all_acts c.requires.0 in
    let stood : StandsAt g.setup now acts = subst (λ (x : SerialValue). StandsAt g.setup x acts)
    (sym c.self.view_is) c.requires.1.stands in
    let P : List LoggedDriver → Type 0 = λ l. (k : ℕ) (d : LoggedDriver) → k < length l → IsLawful
    (slice_index_or l k d) in
    subst P (sym c.as_slice-2.ensures.value) (λ k d less. (stood.nodes k d (at_power_on 1) some_links
    (let e = stood.count.drivers in omega (arith, e, less))).traced.lawful)

pub returns-clause-log : goal.returns-clause-log
returns-clause-log g c =
    let b = c.self.inside in
    let now = run_now b.bus b.drivers.items b.board.ports.items b.links.items b.bits in
    let P : SerialValue → Type 0 = λ r. (plan : PlanValue) (step_runs : List (List StepRun)) →
    StandsBy g.setup r step_runs →
    MayBeOf plan g.setup step_runs → IsLogOf plan r step_runs c.args.end c.of.result in
    let nodes = c.in_ok-nodes.nodes.items in
    let logs = c.in_ok-logs.logs.items in
    let down : ℕ → ℕ → List Down = λ k a. left_of c.as_slice-3.result.now k a in
    let left : (k a : ℕ) (l : Deques) → k < length b.links.items →
    down k a ≡ down_on (slice_index_or b.links.items k l) a = λ k a l less.
    let lists = subst (λ (ls : List Deques). IsLeft ls c.in_ok-lists.lists.items) c.as_slice.ensures.value
    c.in_ok-lists.ensures.lists in
    ap (λ (ls : List (List OlderDown)). left_of ls k a) c.as_slice-3.ensures.value ∙ lists.each k a l less in
    let all : AreNodeEnds logs b.drivers.items down (length b.drivers.items) nodes =
    subst (λ (ds : List LoggedDriver). AreNodeEnds logs ds down (length ds) nodes) c.as_slice-2.ensures.value
    c.in_ok-nodes.ensures.runs in
    let is : c.of.result ≡ record {
      version = c.version-version.result;
      bits = b.bits;
      end = c.args.end;
      nodes =
          nodes;
    } = c.of.ensures in
    subst P c.self.view_is (λ plan step_runs h may.
    log_of_run plan now step_runs c.args.end c.of.result logs g.setup h may (ap (λ (l : RunValue). l.version) is
    ∙ c.version-version.ensures) (ap (λ (l : RunValue). l.bits) is) (ap (λ (l : RunValue). l.end) is) down left
    (subst (λ (ns : List NodeValue). AreNodeEnds logs b.drivers.items down (length b.drivers.items) ns)
    (sym (ap (λ (l : RunValue). l.nodes) is)) all)
    c.in_ok-logs.ensures.journals (c.in_ok-logs.ensures.lawful h.stands.right)
    (c.in_ok-logs.ensures.counters h.stands.right))

pub returns-clause-kept : goal.returns-clause-kept
returns-clause-kept g c =
    let b = c.self.inside in
    let now = run_now b.bus b.drivers.items b.board.ports.items b.links.items b.bits in
    let all : KeepsRun now = record {
      bits = search rules;
      journals = c.in_ok-logs.ensures.kept;
      logs = subst (λ (ds : List LoggedDriver). KeepLogs ds) c.as_slice-2.ensures.value c.in_ok-nodes.ensures.kept;
      links = subst (λ (ls : List Deques). KeepOlder ls) c.as_slice.ensures.value c.in_ok-lists.ensures.kept;
    } in
    subst (λ (r : SerialValue). KeepsRun r) c.self.view_is all
