use Rattle.std.proofs.Common.{◌≡◌, refl, arith}
use Rattle.lemmas.proofs.Related.{each_refl}
use Rattle.sja_journal.specs.Lists.{with_put}
use Rattle.sja_rings.specs.declared.ring_bus.RingBus.{RingBus}
use Rattle.sja_rings.specs.Ends.{SameBus, places_down}
use Rattle.sja_rings.specs.NodeRings.{BusListsAt, OnRing}
use Rattle.sja_rings.specs.Carrying.{bus_refl}
use Rattle.sja_rings.proofs.RingsOfNode.{IsCall, before, changed, others, each_set, off, on_ok, on_err}
use Rattle.sja_rings.proofs.node_bus.NodeBusBusEnd.put.Goals.{After-put}
use Rattle.sja_rings.proofs.node_bus.NodeBusBusEnd.put.Goals as goal

-- it is a call on the ring of its activation
call : (c : After-put) → IsCall c.args.self.now.rings.items c.in-Some.place c.args.activation c.index_mut.result.now
    c.put.new.self
call c =
    let less = c.in-Some.ensures.some.1 in let count = c.len.ensures in let long = c.args.self.now.rings.ok.0 in
    record {
      is = c.in-Some.ensures.some.0;
      few = omega (arith, less, count, long);
      value = c.index_mut.ensures.value;
    }

pub returns-in-Some-clause-same : goal.returns-in-Some-clause-same
returns-in-Some-clause-same c =
    let on = call (goal.at.returns-in-Some-clause-same c).After-put in
    (refl, each_set _ _ _ _ _ on SameBus bus_refl c.put.ensures.same)

pub returns-in-Some-clause-others : goal.returns-in-Some-clause-others
returns-in-Some-clause-others c =
    let on = call (goal.at.returns-in-Some-clause-others c).After-put in others _ _ _ _ _ on BusListsAt

pub returns-in-Some-clause-put : goal.returns-in-Some-clause-put
returns-in-Some-clause-put c =
    let on = call (goal.at.returns-in-Some-clause-put c).After-put in
    on_ok c.put.result (changed _ _ _ _ _ on BusListsAt (λ l. with_put l c.args.item)) c.put.ensures.put

pub returns-in-Some-clause-kept : goal.returns-in-Some-clause-kept
returns-in-Some-clause-kept c =
    let on = call (goal.at.returns-in-Some-clause-kept c).After-put in
    on_err c.put.result (changed _ _ _ _ _ on BusListsAt (λ l. l)) c.put.ensures.kept

pub returns-in-Some-clause-full : goal.returns-in-Some-clause-full
returns-in-Some-clause-full c =
    let on = call (goal.at.returns-in-Some-clause-full c).After-put in
    on_err c.put.result (before _ _ _ _ _ on (OnRing (λ (r : RingBus). places_down r ≡ 0))) c.put.ensures.full

pub returns-in-None-clause-same : goal.returns-in-None-clause-same
returns-in-None-clause-same c = (refl, each_refl SameBus bus_refl c.args.self.now.rings.items)

pub returns-in-None-clause-full : goal.returns-in-None-clause-full
returns-in-None-clause-full c =
    let count = c.len.ensures in let long = c.args.self.now.rings.ok.0 in
    off c.args.self.now.rings.items c.len.result c.args.activation (OnRing (λ (r : RingBus). places_down r ≡ 0))
    (omega (arith, count, long)) c.in-None.ensures.none tt
