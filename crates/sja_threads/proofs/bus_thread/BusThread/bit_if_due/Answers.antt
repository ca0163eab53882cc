use Rattle.std.proofs.Common.{rules, ◌≡◌, List, Err, length, refl, sym, subst, ◌∙◌, arith}
use Rattle.std.specs.Vec.{with_items}
use Rattle.std.proofs.lemmas.List.{with_items_is}
use Rattle.lemmas.proofs.Results.{err_is}
use Rattle.sja_journal.specs.Links.{AreEnds, HaveLinks}
use Rattle.sja_rings.specs.declared.node_bus.NodeBus.{NodeBus}
use Rattle.sja_rings.specs.NodeRings.{links_of_bus, node_of_bus}
use Rattle.sja_threads.specs.Inside.Boards.{turns_in}
use Rattle.sja_threads.specs.Inside.Rounds.{Stops}
use Rattle.sja_threads.proofs.Rounds.Closed.{closed_bit}
use Rattle.sja_threads.proofs.Rounds.GoesOn.{after_bit, all_rest, spent_now, stays_on, wanted_now}
use Rattle.sja_threads.proofs.Rounds.SameEnds.{are_ends, have_links}
use Rattle.sja_threads.proofs.Rounds.Stops.{by_any_orders, stops_bit}
use Rattle.sja_threads.proofs.Rounds.Told.{ended_bit, told_bit}
use Rattle.sja_threads.proofs.bus_thread.BusThread.bit_if_due.Goals as goal

pub returns-then-self-bits-clause-on : goal.returns-then-self-bits-clause-on
returns-then-self-bits-clause-on g c =
    let w = c.requires.way in
    spent_now c.args.plan.now c.args.self.now w (search rules) (c.at_rest-rests.ensures.lawful w.right) c.requires.dry
    (wanted_now c.args.awaited _ c.args.self.now c.at_rest-rests.result c.requires.awaited
    (c.is_wanted.ensures.yes (search rules)) (c.at_rest-rests.ensures.busy w.right))

pub bit-requires-clause-ends : goal.bit-requires-clause-ends
bit-requires-clause-ends g c =
    let w = c.requires.way in
    subst (λ (l : List NodeBus). AreEnds node_of_bus (length c.args.self.now.bus.journals) l)
    (sym c.as_mut_slice.ensures.value)
    (are_ends (length c.args.plan.now.nodes) (length c.args.self.now.bus.journals) c.args.self.now.links.items
    w.journals w.ends)

pub bit-requires-clause-links : goal.bit-requires-clause-links
bit-requires-clause-links g c =
    let w = c.requires.way in
    subst (λ (l : List NodeBus). HaveLinks links_of_bus c.args.self.now.bus.starts l)
    (sym c.as_mut_slice.ensures.value)
    (have_links (length c.args.plan.now.nodes) c.args.self.now.bus.starts c.args.self.now.links.items w.links w.ends)

pub returns-clause-on : goal.returns-clause-on
returns-clause-on g c =
    let w = c.requires.way in
    let o = c.in_ok-bit.ensures.bit in
    let k = o.keeps in
    let links = c.args.self.now.links in
    let those : (with_items links c.bit.new.links).items ≡ c.bit.new.links =
    with_items_is links c.bit.new.links (omega (arith, c.bit.auto.links, c.as_mut_slice.ensures.len)) in
    after_bit c.args.self.now _ c.as_mut_slice.result.now c.bit.new.links c.as_mut_slice.ensures.value those k.script
    k.starts k.steps k.nodes k.sames c.args.plan.now w o.right o.kept _ _ _ (o.run, o.left)
    (c.at_rest-rests.ensures.lawful w.right) c.requires.dry
    (wanted_now c.args.awaited _ c.args.self.now c.at_rest-rests.result c.requires.awaited
    (c.is_wanted.ensures.yes (search rules)) (c.at_rest-rests.ensures.busy w.right)) (search rules) o.bit refl refl

pub returns-in_err-bit-clause-fault : goal.returns-in_err-bit-clause-fault
returns-in_err-bit-clause-fault g c =
    let w = c.requires.way in
    let f = c.in_err-bit.field-0.0 in
    let is : c.from_residual.result ≡ Err f = search rules in
    let links = c.args.self.now.links in
    let those : (with_items links c.bit.new.links).items ≡ c.bit.new.links =
    with_items_is links c.bit.new.links (omega (arith, c.bit.auto.links, c.as_mut_slice.ensures.len)) in
    err_is (Stops c.args.plan.now c.args.self.now _) c.from_residual.result f is
    (stops_bit c.args.plan.now c.args.self.now _ c.bit.new.self c.as_mut_slice.result.now c.bit.new.links f
    c.as_mut_slice.ensures.value those c.bit.ensures.keeps.sames w
    (c.at_rest-rests.ensures.lawful w.right) (search rules)
    (by_any_orders c.args.self.now.bus c.bit.new.self c.as_mut_slice.result.now c.bit.new.links f _
    (c.in_err-bit.ensures.reason w.right)))

pub returns-clause-told : goal.returns-clause-told
returns-clause-told g c =
    let o = c.in_ok-bit.ensures.bit in
    told_bit c.args.plan.now _ _ (turns_in c.args.board.now.told.items) (turns_in c.bit.new.board.told.items) _
    _ _ o.keeps.nodes o.bit c.requires.begun

pub returns-clause-ended : goal.returns-clause-ended
returns-clause-ended g c =
    let o = c.in_ok-bit.ensures.bit in
    let many = c.requires.way.journals in
    ended_bit (length c.args.plan.now.nodes) _ _ (turns_in c.args.board.now.told.items)
    (turns_in c.bit.new.board.told.items) _ _ _ (omega (arith, many)) o.bit

pub returns-then-not-is_wanted-clause-on : goal.returns-then-not-is_wanted-clause-on
returns-then-not-is_wanted-clause-on g c = stays_on c.args.plan.now c.args.self.now c.requires.way

-- where the bits are spent each journal has all of them
pub returns-then-self-bits-clause-all : goal.returns-then-self-bits-clause-all
returns-then-self-bits-clause-all g c = λ is.
    let w = c.requires.way in
    let laws = c.at_rest-rests.ensures.lawful w.right in
    let on = spent_now c.args.plan.now c.args.self.now w (search rules) laws c.requires.dry
    (wanted_now c.args.awaited _ c.args.self.now c.at_rest-rests.result c.requires.awaited
    (c.is_wanted.ensures.yes (search rules)) (c.at_rest-rests.ensures.busy w.right)) in
    λ node few. laws.wired.count node few ∙ w.run ∙ (on.way.spent refl).0

pub returns-then-not-is_wanted-clause-rests : goal.returns-then-not-is_wanted-clause-rests
returns-then-not-is_wanted-clause-rests g c = λ is.
    let w = c.requires.way in
    let no = c.is_wanted.ensures.no (search rules) in
    (no.1, all_rest c.args.self.now.bus.journals (c.at_rest-rests.ensures.rest w.right no.0))

pub returns-clause-closed : goal.returns-clause-closed
returns-clause-closed g c =
    let o = c.in_ok-bit.ensures.bit in
    let many = c.requires.way.journals in
    closed_bit (length c.args.plan.now.nodes) _ _ (turns_in c.args.board.now.told.items)
    (turns_in c.bit.new.board.told.items) _ _ _ (omega (arith, many)) o.bit
