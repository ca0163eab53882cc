use Rattle.std.proofs.Common.{◌≡◌, ◌<◌, length, arith, rules}
use Rattle.std.specs.Prelude.{Err, slice_index_or, slice_set}
use Rattle.sja_bus.specs.Inside.Rows.{BusNodeUntold}
use Rattle.sja_bus.proofs.AllNodes.Begins.{BusNodeTakesWithin, begins_at}
use Rattle.sja_bus.specs.Inside.Refusing.{BusNodeRefuses}
use Rattle.lemmas.proofs.Results.{err_is}
use Rattle.sja_bus.proofs.AllNodes.Many.{done_all, sames_one}
use Rattle.sja_bus.proofs.AllNodes.Rows.{has_end, taken_none, taken_one}
use Rattle.sja_bus.proofs.ItemsTaken.Refusing.{refuses_bus_node, rooms_one}
use Rattle.sja_bus.proofs.all_nodes.gather_all.Goals as goal

pub loop-k-init : goal.loop-k-init
loop-k-init g c = taken_none g.E.BusEnd.same g.E.BusEnd.stands g.E.BusEnd.dry g.met.E.BusEnd.same_refl
    (BusNodeTakesWithin g.E.BusEnd.links c.args.links.now) BusNodeUntold c.args.bus_nodes.now c.args.links.now
    c.requires.ready

pub bounds-links-k : goal.bounds-links-k
bounds-links-k g c =
    let here : c.loop-k.k < length c.loop-k.bus_nodes = search rules in
    omega (arith, here, c.loop-k.auto.bus_nodes, c.loop-k.auto.links, c.requires.ends.count)

pub gather-requires : goal.gather-requires
gather-requires g c =
    record {
      at = has_end g.E.BusEnd.node g.E.BusEnd.same g.met.E.BusEnd.same_node (length c.args.bus_nodes.now)
          c.loop-k.bus_nodes
          c.args.links.now c.loop-k.links c.loop-k.k c.index-bus_nodes-k.result c.index-links-k.result
          c.loop-k.auto.bus_nodes (search rules) c.loop-k.invariant.goes.sames c.requires.ends c.loop-k.invariant.ready;
    }

pub returns-in_err-gather-clause-sames : goal.returns-in_err-gather-clause-sames
returns-in_err-gather-clause-sames g c =
    let here : c.loop-k.k < length c.loop-k.bus_nodes = search rules in
    sames_one g.E.BusEnd.same g.met.E.BusEnd.same_refl g.met.E.BusEnd.same_trans c.args.links.now c.loop-k.links
    c.loop-k.k c.index-links-k.result c.gather.new.end
    (omega (arith, here, c.loop-k.auto.bus_nodes, c.loop-k.auto.links, c.requires.ends.count))
    c.loop-k.invariant.goes.sames c.gather.ensures.stays.is_same

pub loop-k-preserved : goal.loop-k-preserved
loop-k-preserved g c =
    let E = g.E.BusEnd in let met = g.met.E.BusEnd in let did = c.in_ok-gather.ensures in
    let k = c.loop-k.k in let s = c.index-bus_nodes-k.result in let d = c.index-links-k.result in
    let here : k < length c.loop-k.bus_nodes = search rules in
    let there : k < length c.loop-k.links =
    omega (arith, here, c.loop-k.auto.bus_nodes, c.loop-k.auto.links, c.requires.ends.count) in
    let begins = begins_at E.same E.links met.same_links c.args.links.now c.loop-k.links k d
    (slice_index_or c.loop-k.bus_nodes k s) c.gather.new.self c.loop-k.invariant.goes.sames there did.within in
    taken_one E.same E.stands E.dry met.same_refl met.same_trans (BusNodeTakesWithin E.links c.args.links.now)
    BusNodeUntold
    c.args.bus_nodes.now c.loop-k.bus_nodes c.args.links.now c.loop-k.links k s c.gather.new.self d c.gather.new.end
    here there
    c.loop-k.auto.bus_nodes did.stays did.ready did.goes did.dry (did.items, begins) did.untold c.loop-k.invariant

pub returns-clause-items : goal.returns-clause-items
returns-clause-items g c = λ m s few. (done_all (BusNodeTakesWithin g.E.BusEnd.links c.args.links.now) c.loop-k.k
    c.args.bus_nodes.now c.loop-k.bus_nodes (search rules) c.loop-k.invariant.done m s few).0

pub returns-clause-within : goal.returns-clause-within
returns-clause-within g c = λ m s few. (done_all (BusNodeTakesWithin g.E.BusEnd.links c.args.links.now) c.loop-k.k
    c.args.bus_nodes.now c.loop-k.bus_nodes (search rules) c.loop-k.invariant.done m s few).1

pub returns-in_err-gather-clause-refused : goal.returns-in_err-gather-clause-refused
returns-in_err-gather-clause-refused g c =
    let E = g.E.BusEnd in let k = c.loop-k.k in
    let before = c.args.bus_nodes.now in let inv = c.loop-k.invariant in
    let was : k < length before = search rules in
    let is : c.from_residual.result ≡ Err c.in_err-gather.field-0.0 = search rules in
    let P : _ → Type 0 = λ f. BusNodeRefuses E before (slice_set c.loop-k.bus_nodes k c.gather.new.self)
    c.args.links.now (slice_set c.loop-k.links k c.gather.new.end) f in
    err_is P c.from_residual.result c.in_err-gather.field-0.0 is
    (refuses_bus_node E g.met.E.BusEnd.same_links (BusNodeTakesWithin E.links c.args.links.now) before
    c.loop-k.bus_nodes
    c.args.links.now c.loop-k.links k
    c.index-bus_nodes-k.result c.gather.new.self c.index-links-k.result c.gather.new.end c.in_err-gather.field-0.0 was
    (omega (arith, was, c.loop-k.auto.links, c.requires.ends.count)) c.loop-k.auto.bus_nodes inv.ready inv.goes inv.done
    c.in_err-gather.ensures.refused)

pub returns-clause-rooms : goal.returns-clause-rooms
returns-clause-rooms g c = c.loop-k.invariant.rooms

pub returns-clause-untold : goal.returns-clause-untold
returns-clause-untold g c = done_all BusNodeUntold c.loop-k.k c.args.bus_nodes.now c.loop-k.bus_nodes (search rules)
    c.loop-k.invariant.untold

pub returns-in_err-gather-clause-rooms : goal.returns-in_err-gather-clause-rooms
returns-in_err-gather-clause-rooms g c = λ n h.
    let here : c.loop-k.k < length c.loop-k.bus_nodes = search rules in
    rooms_one n c.loop-k.bus_nodes c.loop-k.k c.index-bus_nodes-k.result c.gather.new.self here
    c.gather.ensures.stays.room
    (c.loop-k.invariant.rooms n h)
