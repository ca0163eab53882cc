use Rattle.std.proofs.Common.{◌≡◌, [], refl, arith}
use Rattle.lemmas.proofs.Related.{each_refl}
use Rattle.sja_journal.specs.Lists.{with_got}
use Rattle.sja_rings.specs.declared.ring_driver.RingDriver.{RingDriver}
use Rattle.sja_rings.specs.Ends.{SameDriver, shown_down}
use Rattle.sja_rings.specs.NodeRings.{DriverListsAt, OnRing}
use Rattle.sja_rings.specs.Carrying.{driver_refl}
use Rattle.sja_rings.proofs.RingsOfNode.{IsCall, after, changed, others, each_set, off, if_some, if_none}
use Rattle.sja_rings.proofs.node_driver.NodeDriverDriverEnd.get.Goals.{After-get}
use Rattle.sja_rings.proofs.node_driver.NodeDriverDriverEnd.get.Goals as goal

-- it is a call on the ring of its activation
call : (c : After-get) → IsCall c.args.self.now.rings.items c.in-Some.place c.args.activation c.index_mut.result.now
    c.get.new.self
call c =
    let less = c.in-Some.ensures.some.1 in let count = c.len.ensures in let long = c.args.self.now.rings.ok.0 in
    record {
      is = c.in-Some.ensures.some.0;
      few = omega (arith, less, count, long);
      value = c.index_mut.ensures.value;
    }

pub returns-in-Some-clause-same : goal.returns-in-Some-clause-same
returns-in-Some-clause-same c =
    let on = call (goal.at.returns-in-Some-clause-same c).After-get in
    (refl, each_set _ _ _ _ _ on SameDriver driver_refl c.get.ensures.same)

pub returns-in-Some-clause-others : goal.returns-in-Some-clause-others
returns-in-Some-clause-others c =
    let on = call (goal.at.returns-in-Some-clause-others c).After-get in others _ _ _ _ _ on DriverListsAt

pub returns-in-Some-clause-item : goal.returns-in-Some-clause-item
returns-in-Some-clause-item c =
    let on = call (goal.at.returns-in-Some-clause-item c).After-get in
    if_some c.get.result (λ x. changed _ _ _ _ _ on DriverListsAt (λ l. with_got l x)) c.get.ensures.item

pub returns-in-Some-clause-kept : goal.returns-in-Some-clause-kept
returns-in-Some-clause-kept c =
    let on = call (goal.at.returns-in-Some-clause-kept c).After-get in
    if_none c.get.result (changed _ _ _ _ _ on DriverListsAt (λ l. l)) c.get.ensures.kept

pub returns-in-Some-clause-dry : goal.returns-in-Some-clause-dry
returns-in-Some-clause-dry c =
    let on = call (goal.at.returns-in-Some-clause-dry c).After-get in
    if_none c.get.result (after _ _ _ _ _ on (OnRing (λ (r : RingDriver). shown_down r ≡ []))) c.get.ensures.dry

pub returns-in-None-clause-same : goal.returns-in-None-clause-same
returns-in-None-clause-same c = (refl, each_refl SameDriver driver_refl c.args.self.now.rings.items)

pub returns-in-None-clause-dry : goal.returns-in-None-clause-dry
returns-in-None-clause-dry c =
    let count = c.len.ensures in let long = c.args.self.now.rings.ok.0 in
    off c.args.self.now.rings.items c.len.result c.args.activation (OnRing (λ (r : RingDriver). shown_down r ≡ []))
    (omega (arith, count, long)) c.in-None.ensures.none tt
