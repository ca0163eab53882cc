use Rattle.std.proofs.Common.{◌≡◌, refl, arith}
use Rattle.lemmas.proofs.Related.{each_refl}
use Rattle.sja_journal.specs.Lists.{with_given}
use Rattle.sja_rings.specs.declared.ring_driver.RingDriver.{RingDriver}
use Rattle.sja_rings.specs.Ends.{SameDriver, places_up}
use Rattle.sja_rings.specs.NodeRings.{DriverListsAt, OnRing}
use Rattle.sja_rings.specs.Carrying.{driver_refl}
use Rattle.sja_rings.proofs.RingsOfNode.{IsCall, before, changed, others, each_set, off, on_ok, on_err}
use Rattle.sja_rings.proofs.node_driver.NodeDriverDriverEnd.give.Goals.{After-give}
use Rattle.sja_rings.proofs.node_driver.NodeDriverDriverEnd.give.Goals as goal

-- it is a call on the ring of its activation
call : (c : After-give) → IsCall c.args.self.now.rings.items c.in-Some.place c.args.activation c.index_mut.result.now
    c.give.new.self
call c =
    let less = c.in-Some.ensures.some.1 in let count = c.len.ensures in let long = c.args.self.now.rings.ok.0 in
    record {
      is = c.in-Some.ensures.some.0;
      few = omega (arith, less, count, long);
      value = c.index_mut.ensures.value;
    }

pub returns-in-Some-clause-same : goal.returns-in-Some-clause-same
returns-in-Some-clause-same c =
    let on = call (goal.at.returns-in-Some-clause-same c).After-give in
    (refl, each_set _ _ _ _ _ on SameDriver driver_refl c.give.ensures.same)

pub returns-in-Some-clause-others : goal.returns-in-Some-clause-others
returns-in-Some-clause-others c =
    let on = call (goal.at.returns-in-Some-clause-others c).After-give in others _ _ _ _ _ on DriverListsAt

pub returns-in-Some-clause-given : goal.returns-in-Some-clause-given
returns-in-Some-clause-given c =
    let on = call (goal.at.returns-in-Some-clause-given c).After-give in
    on_ok c.give.result (changed _ _ _ _ _ on DriverListsAt (λ l. with_given l c.args.item)) c.give.ensures.given

pub returns-in-Some-clause-kept : goal.returns-in-Some-clause-kept
returns-in-Some-clause-kept c =
    let on = call (goal.at.returns-in-Some-clause-kept c).After-give in
    on_err c.give.result (changed _ _ _ _ _ on DriverListsAt (λ l. l)) c.give.ensures.kept

pub returns-in-Some-clause-full : goal.returns-in-Some-clause-full
returns-in-Some-clause-full c =
    let on = call (goal.at.returns-in-Some-clause-full c).After-give in
    on_err c.give.result (before _ _ _ _ _ on (OnRing (λ (r : RingDriver). places_up r ≡ 0))) c.give.ensures.full

pub returns-in-None-clause-same : goal.returns-in-None-clause-same
returns-in-None-clause-same c = (refl, each_refl SameDriver driver_refl c.args.self.now.rings.items)

pub returns-in-None-clause-full : goal.returns-in-None-clause-full
returns-in-None-clause-full c =
    let count = c.len.ensures in let long = c.args.self.now.rings.ok.0 in
    off c.args.self.now.rings.items c.len.result c.args.activation (OnRing (λ (r : RingDriver). places_up r ≡ 0))
    (omega (arith, count, long)) c.in-None.ensures.none tt
