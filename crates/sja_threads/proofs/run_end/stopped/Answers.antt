use Rattle.std.proofs.Common.{rules, ◌≡◌, ◌<◌, ℕ, List, length, sym, ap, ◌∙◌, subst}
use Rattle.std.specs.Prelude.{slice_index_or}
use Rattle.sja_rings.specs.declared.node_bus.NodeBus.{NodeBus}
use Rattle.sja_rings.specs.declared.node_driver.NodeDriver.{NodeDriver}
use Rattle.sja_rings.specs.NodeRings.{OneNode}
use Rattle.sja_thread_promises.specs.Stopping.{IsFaultOf}
use Rattle.sja_threads.specs.Inside.Settling.{AllCameFrom, SomeUnsettled}
use Rattle.sja_threads.proofs.End.CameFrom.{stops_with}
use Rattle.sja_threads.proofs.End.Unsettled.{unsettled_run}
use Rattle.sja_threads.proofs.End.LinksOver.{ends_count, one_node}
use Rattle.sja_threads.proofs.run_end.stopped.Goals as goal

pub all_account-requires-clause-count : goal.all_account-requires-clause-count
all_account-requires-clause-count c =
    let r = c.requires in
    ends_count (length r.0.nodes) c.args.bus.links.items c.args.workeds.items r.1.joined
    ∙ sym (ap (λ (l : List NodeDriver). length l) c.in-Ok.ensures.ends)

pub all_account-requires-clause-pairs : goal.all_account-requires-clause-pairs
all_account-requires-clause-pairs c =
    let r = c.requires in
    let links = c.args.bus.links.items in
    let P : List NodeDriver → Type 0 = λ es. (node : ℕ) (b : NodeBus) (d : NodeDriver) → node < length links →
    OneNode (slice_index_or links node b) (slice_index_or es node d) in
    subst P (sym c.in-Ok.ensures.ends) (one_node (length r.0.nodes) links c.args.workeds.items r.1.joined)

pub returns-then-all_account : goal.returns-then-all_account
returns-then-all_account c = λ plan is.
    let links = c.args.bus.links.items in
    let P : List NodeDriver → Type 0 = λ es. (node : ℕ) (b : NodeBus) (d : NodeDriver) → node < length links →
    AllCameFrom (slice_index_or links node b) (slice_index_or es node d) in
    subst (IsFaultOf plan) (sym c.as_told.ensures)
    (stops_with plan links c.args.workeds.items c.args.stop is
    (subst P c.in-Ok.ensures.ends (c.all_account.ensures.yes (search rules))))

pub returns : goal.returns
returns c = λ plan is.
    let links = c.args.bus.links.items in
    unsettled_run plan links c.args.workeds.items is.works is.stop.ends is.joined is.given is.follows
    (subst (λ (ends : List NodeDriver). SomeUnsettled links ends) c.in-Ok.ensures.ends
    (c.all_account.ensures.no (search rules)))
