use Rattle.std.proofs.Common.{rules, ◌≡◌, ◌∷◌, List, [], length, refl, sym, ◌∙◌, subst}
use Rattle.std.proofs.lemmas.List.{nil_from_length}
use Rattle.std.specs.Vec.Iter.{into_iter_items}
use Rattle.sja_rings.specs.declared.ring_bus.RingBus.{RingBus}
use Rattle.sja_rings.specs.declared.ring_driver.RingDriver.{RingDriver}
use Rattle.sja_rings.specs.Ends.{OneLink}
use Rattle.sja_rings.specs.NodeRings.{rings_of_bus, rings_of_driver}
use Rattle.sja_threads.specs.Inside.Settling.{CameFrom}
use Rattle.sja_threads.proofs.End.CameFrom.{unsettled_link}
use Rattle.sja_threads.proofs.End.GoneThrough.{AreGone, all_so, both_next, none_beside, none_yet, one_more}
use Rattle.sja_threads.proofs.End.GoneThrough.{related_at}
use Rattle.sja_threads.proofs.End.LinksOver.{as_many}
use Rattle.sja_threads.proofs.left_on_links.node_accounts.Goals.{In-Some-next}
use Rattle.sja_threads.proofs.left_on_links.node_accounts.Goals as goal

-- before the next one is gone through
here : (c : In-Some-next) → AreGone CameFrom (rings_of_bus c.args.bus) (rings_of_driver c.args.driver)
    (c.in-Some.link ∷ into_iter_items c.next.new.self)
    (c.in-Some-next.end ∷ into_iter_items c.next-in-loop-link.new.self)
here c =
    let left = into_iter_items c.next-in-loop-link.new.self in
    subst (λ (l : List RingBus). AreGone CameFrom (rings_of_bus c.args.bus) (rings_of_driver c.args.driver) l
    (c.in-Some-next.end ∷ left)) c.in-Some.ensures.steps.0
    (subst (λ (e : List RingDriver). AreGone CameFrom (rings_of_bus c.args.bus) (rings_of_driver c.args.driver)
    (into_iter_items c.loop-link.link-iterator) e) c.in-Some-next.ensures.items c.loop-link.invariant)

pub loop-link-init : goal.loop-link-init
loop-link-init c =
    none_yet CameFrom (rings_of_bus c.args.bus) (rings_of_driver c.args.driver)
    (into_iter_items c.into_iter-link-iterator.result) (into_iter_items c.into_iter-ends.result) (search rules)
    (search rules)

-- there is one of the driver's ends
pub unreachable-requires : goal.unreachable-requires
unreachable-requires c =
    let inv = c.loop-link.invariant in
    let ends = c.loop-link.ends in
    none_beside (rings_of_bus c.args.bus) (rings_of_driver c.args.driver) inv.many (into_iter_items c.next.new.self)
    c.in-Some.link (as_many c.args.bus c.args.driver c.requires) (sym inv.first_left ∙ c.in-Some.ensures.steps.0)
    (sym inv.second_left
    ∙ nil_from_length (into_iter_items ends) (sym ends.rest.ok.0 ∙ c.in_default.ensures.cases.0))

pub accounts-requires : goal.accounts-requires
accounts-requires c =
    let h = here (goal.at.accounts-requires c).In-Some-next in
    both_next OneLink (rings_of_bus c.args.bus) (rings_of_driver c.args.driver) h.many _ _ c.in-Some.link
    c.in-Some-next.end (sym h.first_left) (sym h.second_left)
    (related_at OneLink (rings_of_bus c.args.bus) (rings_of_driver c.args.driver) c.requires.1)

pub loop-link-preserved : goal.loop-link-preserved
loop-link-preserved c =
    one_more CameFrom (rings_of_bus c.args.bus) (rings_of_driver c.args.driver) _ _ c.in-Some.link c.in-Some-next.end
    (here (goal.at.loop-link-preserved c).In-Some-next) (c.accounts.ensures.yes (search rules))

pub returns-clause-yes : goal.returns-clause-yes
returns-clause-yes c = λ is.
    let it = c.loop-link.link-iterator in
    all_so CameFrom (rings_of_bus c.args.bus) (rings_of_driver c.args.driver) _ _ c.loop-link.invariant
    (nil_from_length (into_iter_items it) (sym it.rest.ok.0 ∙ c.in-None.ensures.steps.0))

pub returns-then-not-accounts-clause-no : goal.returns-then-not-accounts-clause-no
returns-then-not-accounts-clause-no c = λ is.
    let h = here (goal.at.returns-then-not-accounts-clause-no c).In-Some-next in
    unsettled_link c.args.bus c.args.driver (rings_of_bus c.args.bus) (rings_of_driver c.args.driver) h.many _ _
    c.in-Some.link c.in-Some-next.end refl refl (sym h.first_left) (sym h.second_left)
    (c.accounts.ensures.no c.if-not-accounts.true)
