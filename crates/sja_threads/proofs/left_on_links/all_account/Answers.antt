use Rattle.std.proofs.Common.{rules, ◌≡◌, ◌∷◌, List, [], sym, ◌∙◌, subst}
use Rattle.std.proofs.lemmas.List.{nil_from_length}
use Rattle.std.specs.Vec.Iter.{into_iter_items}
use Rattle.sja_rings.specs.declared.node_bus.NodeBus.{NodeBus}
use Rattle.sja_rings.specs.declared.node_driver.NodeDriver.{NodeDriver}
use Rattle.sja_rings.specs.NodeRings.{OneNode}
use Rattle.sja_threads.specs.Inside.Settling.{AllCameFrom}
use Rattle.sja_threads.proofs.End.CameFrom.{unsettled_node}
use Rattle.sja_threads.proofs.End.GoneThrough.{AreGone, all_so, both_next, none_yet, one_more}
use Rattle.sja_threads.proofs.left_on_links.all_account.Goals.{In-Some-next}
use Rattle.sja_threads.proofs.left_on_links.all_account.Goals as goal

-- before the next one is gone through
here : (c : In-Some-next) → AreGone AllCameFrom c.args.links.items c.args.ends.items
    (c.in-Some.link ∷ into_iter_items c.next.new.self)
    (c.in-Some-next.end ∷ into_iter_items c.next-in-loop-link.new.self)
here c =
    let left = into_iter_items c.next-in-loop-link.new.self in
    subst (λ (l : List NodeBus). AreGone AllCameFrom c.args.links.items c.args.ends.items l
    (c.in-Some-next.end ∷ left)) c.in-Some.ensures.steps.0
    (subst (λ (e : List NodeDriver). AreGone AllCameFrom c.args.links.items c.args.ends.items
    (into_iter_items c.loop-link.link-iterator) e) c.in-Some-next.ensures.items c.loop-link.invariant)

pub loop-link-init : goal.loop-link-init
loop-link-init c =
    none_yet AllCameFrom c.args.links.items c.args.ends.items (into_iter_items c.into_iter-link-iterator.result)
    (into_iter_items c.into_iter-ends.result) (search rules) (search rules)

pub node_accounts-requires : goal.node_accounts-requires
node_accounts-requires c =
    let h = here (goal.at.node_accounts-requires c).In-Some-next in
    both_next OneNode c.args.links.items c.args.ends.items h.many _ _ c.in-Some.link c.in-Some-next.end
    (sym h.first_left) (sym h.second_left) c.requires.pairs

pub loop-link-preserved : goal.loop-link-preserved
loop-link-preserved c =
    one_more AllCameFrom c.args.links.items c.args.ends.items _ _ c.in-Some.link c.in-Some-next.end
    (here (goal.at.loop-link-preserved c).In-Some-next) (c.node_accounts.ensures.yes (search rules))

pub returns-clause-yes : goal.returns-clause-yes
returns-clause-yes c = λ is.
    let it = c.loop-link.link-iterator in
    all_so AllCameFrom c.args.links.items c.args.ends.items _ _ c.loop-link.invariant
    (nil_from_length (into_iter_items it) (sym it.rest.ok.0 ∙ c.in-None.ensures.steps.0))

pub returns-then-not-node_accounts-clause-no : goal.returns-then-not-node_accounts-clause-no
returns-then-not-node_accounts-clause-no c = λ is.
    let h = here (goal.at.returns-then-not-node_accounts-clause-no c).In-Some-next in
    unsettled_node c.args.links.items c.args.ends.items h.many _ _ c.in-Some.link c.in-Some-next.end (sym h.first_left)
    (sym h.second_left) (c.node_accounts.ensures.no c.if-not-node_accounts.true)
