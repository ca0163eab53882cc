use Rattle.std.proofs.Common.{◌≡◌, ℕ, ◌<◌, List, length, sym, ap, ◌∙◌, subst}
use Rattle.std.specs.Prelude.{Err, None, slice_index_or}
use Rattle.sja_link.specs.declared.older_down.OlderDown.{OlderDown}
use Rattle.sja_rings.specs.declared.node_bus.NodeBus.{NodeBus}
use Rattle.sja_rings.specs.declared.node_driver.NodeDriver.{NodeDriver}
use Rattle.sja_rings.specs.NodeRings.{OneNode}
use Rattle.sja_driver.specs.declared.logged_driver.LoggedDriver.{LoggedDriver}
use Rattle.sja_driver.specs.LoggedDrivers.{IsLawful}
use Rattle.sja_promises.specs.Finishing.{AreNodeEnds, KeepLogs}
use Rattle.sja_promises.specs.LeftDown.{left_of}
use Rattle.sja_log.specs.Log.{NodeValue, RunValue}
use Rattle.sja_threads.specs.Inside.Settling.{all_drivers, AreLeftOn}
use Rattle.sja_threads.proofs.End.LinksOver.{ends_count, joined_over, one_node, all_keep, all_lawful, record_kept}
use Rattle.sja_threads.proofs.End.LogOver.{AreLogParts, run_over, log_over}
use Rattle.sja_threads.proofs.run_end.settled_log.Goals.{After-of-in-Ok-node_runs}
use Rattle.sja_threads.proofs.run_end.settled_log.Goals as goal

pub settle_all-requires-clause-count : goal.settle_all-requires-clause-count
settle_all-requires-clause-count c =
    let o = c.requires.over in
    ends_count (length c.args.plan.now.nodes) c.args.bus.links.items c.args.workeds.items
    (joined_over c.args.plan.now c.args.bus.bus c.args.bus.links.items c.args.workeds.items o.0 o.1)
    ∙ sym (ap (λ (l : List NodeDriver). length l) c.in_ok-drivers.ensures.ends)

pub settle_all-requires-clause-pairs : goal.settle_all-requires-clause-pairs
settle_all-requires-clause-pairs c =
    let o = c.requires.over in
    let links = c.args.bus.links.items in
    let P : List NodeDriver → Type 0 = λ es. (node : ℕ) (b : NodeBus) (d : NodeDriver) → node < length links →
    OneNode (slice_index_or links node b) (slice_index_or es node d) in
    subst P (sym c.in_ok-drivers.ensures.ends)
    (one_node (length c.args.plan.now.nodes) links c.args.workeds.items
    (joined_over c.args.plan.now c.args.bus.bus links c.args.workeds.items o.0 o.1))

pub node_runs-requires-clause-lawful : goal.node_runs-requires-clause-lawful
node_runs-requires-clause-lawful c =
    let o = c.requires.over in
    let P : List LoggedDriver → Type 0 = λ ds. (k : ℕ) (d : LoggedDriver) → k < length ds →
    IsLawful (slice_index_or ds k d) in
    subst P (sym (c.as_slice.ensures.value ∙ c.in_ok-drivers.ensures.drivers))
    (all_lawful c.args.plan.now c.args.bus.bus c.args.bus.links.items c.args.workeds.items
    o.0 o.1)

-- its journals, and its drivers' logs, are kept whole
pub unreachable-requires : goal.unreachable-requires
unreachable-requires c =
    let o = c.requires.over in
    c.in_default.ensures.endless
    (record_kept c.args.plan.now c.args.bus.bus c.args.bus.links.items c.args.workeds.items o.0 o.1 c.limits.ensures)

pub unreachable-requires-in-Err-Endless : goal.unreachable-requires-in-Err-Endless
unreachable-requires-in-Err-Endless c =
    let o = c.requires.over in
    c.in-Err-Endless.ensures.endless (ap Err c.in-Err-Endless.field-0-is)
    (subst KeepLogs (sym (c.as_slice.ensures.value ∙ c.in_ok-drivers.ensures.drivers))
    (all_keep c.args.plan.now c.args.bus.bus c.args.bus.links.items c.args.workeds.items o.0 o.1))

-- what the log is made of
log_parts : (c : After-of-in-Ok-node_runs) → c.args.bus.bus.fault ≡ None →
    AreLogParts c.args.plan.now c.args.bus.bus c.args.bus.links.items c.args.workeds.items c.args.end
    c.of-in-Ok-node_runs.result c.in-Ok.logs.items c.in_ok-lists.lists.items
log_parts c right =
    let f = c.in-Ok.ensures in
    let logs = c.in-Ok.logs.items in
    let drivers = all_drivers c.args.workeds.items in
    let left = c.in_ok-lists.lists.items in
    let nodes = c.in-Ok-node_runs.nodes.items in
    let now = c.as_slice-2.result.now in
    let is = c.of-in-Ok-node_runs.ensures in record {
      version = ap (λ (l : RunValue). l.version) is ∙ c.version.ensures.value;
      bits = ap (λ (l : RunValue). l.bits) is ∙ sym c.requires.bits;
      ends = ap (λ (l : RunValue). l.end) is;
      nodes =
          subst (λ (ns : List NodeValue). AreNodeEnds logs drivers (λ k a. left_of left k a) (length drivers) ns)
          (sym (ap (λ (l : RunValue). l.nodes) is))
          (subst (λ (l : List (List OlderDown)). AreNodeEnds logs drivers (λ k a. left_of l k a) (length drivers) nodes)
          c.as_slice-2.ensures.value
          (subst (λ (ds : List LoggedDriver). AreNodeEnds logs ds (λ k a. left_of now k a) (length ds) nodes)
          (c.as_slice.ensures.value ∙ c.in_ok-drivers.ensures.drivers) c.in-Ok-node_runs.ensures.runs));
      left = subst (λ (es : List NodeDriver). AreLeftOn c.args.bus.links.items es (length c.args.bus.links.items) left)
          c.in_ok-drivers.ensures.ends c.in_ok-lists.ensures.left;
      journals = f.journals;
      lawful = f.lawful right;
      counters = f.counters right;
    }

pub returns-in-Ok-node_runs-clause-run : goal.returns-in-Ok-node_runs-clause-run
returns-in-Ok-node_runs-clause-run c = λ acts over.
    let m = log_parts (goal.at.returns-in-Ok-node_runs-clause-run c).After-of-in-Ok-node_runs over.right in
    run_over c.args.plan.now c.args.bus.bus c.args.bus.links.items c.args.workeds.items c.args.end
    c.of-in-Ok-node_runs.result c.in-Ok.logs.items c.in_ok-lists.lists.items m acts over

pub returns-in-Ok-node_runs-clause-log : goal.returns-in-Ok-node_runs-clause-log
returns-in-Ok-node_runs-clause-log c =
    let o = c.requires.over in
    let m = log_parts (goal.at.returns-in-Ok-node_runs-clause-log c).After-of-in-Ok-node_runs o.1.right in
    log_over c.args.plan.now c.args.bus.bus c.args.bus.links.items c.args.workeds.items c.args.end
    c.of-in-Ok-node_runs.result c.in-Ok.logs.items c.in_ok-lists.lists.items m o.0 o.1
