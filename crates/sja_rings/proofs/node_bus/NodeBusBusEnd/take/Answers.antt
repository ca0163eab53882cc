use Rattle.std.proofs.Common.{◌≡◌, [], refl, arith}
use Rattle.lemmas.proofs.Related.{each_refl}
use Rattle.sja_journal.specs.Lists.{with_taken}
use Rattle.sja_rings.specs.declared.ring_bus.RingBus.{RingBus}
use Rattle.sja_rings.specs.Ends.{SameBus, shown_up}
use Rattle.sja_rings.specs.NodeRings.{BusListsAt, OnRing}
use Rattle.sja_rings.specs.Carrying.{bus_refl}
use Rattle.sja_rings.proofs.RingsOfNode.{IsCall, after, changed, others, each_set, off, if_some, if_none}
use Rattle.sja_rings.proofs.node_bus.NodeBusBusEnd.take.Goals.{After-take}
use Rattle.sja_rings.proofs.node_bus.NodeBusBusEnd.take.Goals as goal

-- it is a call on the ring of its activation
call : (c : After-take) → IsCall c.args.self.now.rings.items c.in-Some.place c.args.activation c.index_mut.result.now
    c.take.new.self
call c =
    let less = c.in-Some.ensures.some.1 in let count = c.len.ensures in let long = c.args.self.now.rings.ok.0 in
    record {
      is = c.in-Some.ensures.some.0;
      few = omega (arith, less, count, long);
      value = c.index_mut.ensures.value;
    }

pub returns-in-Some-clause-same : goal.returns-in-Some-clause-same
returns-in-Some-clause-same c =
    let on = call (goal.at.returns-in-Some-clause-same c).After-take in
    (refl, each_set _ _ _ _ _ on SameBus bus_refl c.take.ensures.same)

pub returns-in-Some-clause-others : goal.returns-in-Some-clause-others
returns-in-Some-clause-others c =
    let on = call (goal.at.returns-in-Some-clause-others c).After-take in others _ _ _ _ _ on BusListsAt

pub returns-in-Some-clause-item : goal.returns-in-Some-clause-item
returns-in-Some-clause-item c =
    let on = call (goal.at.returns-in-Some-clause-item c).After-take in
    if_some c.take.result (λ x. changed _ _ _ _ _ on BusListsAt (λ l. with_taken l x)) c.take.ensures.item

pub returns-in-Some-clause-kept : goal.returns-in-Some-clause-kept
returns-in-Some-clause-kept c =
    let on = call (goal.at.returns-in-Some-clause-kept c).After-take in
    if_none c.take.result (changed _ _ _ _ _ on BusListsAt (λ l. l)) c.take.ensures.kept

pub returns-in-Some-clause-dry : goal.returns-in-Some-clause-dry
returns-in-Some-clause-dry c =
    let on = call (goal.at.returns-in-Some-clause-dry c).After-take in
    if_none c.take.result (after _ _ _ _ _ on (OnRing (λ (r : RingBus). shown_up r ≡ []))) c.take.ensures.dry

pub returns-in-None-clause-same : goal.returns-in-None-clause-same
returns-in-None-clause-same c = (refl, each_refl SameBus bus_refl c.args.self.now.rings.items)

pub returns-in-None-clause-dry : goal.returns-in-None-clause-dry
returns-in-None-clause-dry c =
    let count = c.len.ensures in let long = c.args.self.now.rings.ok.0 in
    off c.args.self.now.rings.items c.len.result c.args.activation (OnRing (λ (r : RingBus). shown_up r ≡ []))
    (omega (arith, count, long)) c.in-None.ensures.none tt
