-- Ends that came from one pair, some calls later.
use Rattle.std.proofs.Common.{List, [], ◌∷◌, sym, ◌∙◌}
use Rattle.lemmas.specs.Related.{EachRelated}
use Rattle.sja_rings.specs.declared.ring_bus.RingBus.{RingBus}
use Rattle.sja_rings.specs.declared.ring_driver.RingDriver.{RingDriver}
use Rattle.sja_rings.specs.declared.node_bus.NodeBus.{NodeBus}
use Rattle.sja_rings.specs.declared.node_driver.NodeDriver.{NodeDriver}
use Rattle.sja_rings.specs.Ends.{SameBus, SameDriver, OneLink}
use Rattle.sja_rings.specs.NodeRings.{SameNodeBus, SameNodeDriver, OneNode}

-- those of a link
pub still_one : (b c : RingBus) (d e : RingDriver) → OneLink b d → SameBus b c → SameDriver d e → OneLink c e
still_one b c d e one p q = (
  q.0 ∙ one.0 ∙ sym p.0,
  (
    q.1.0.0 ∙ one.1.0 ∙ sym p.1.0.0,
    q.1.0.1 ∙ one.1.1 ∙ sym p.1.0.1,
    q.1.0.2 ∙ one.1.2 ∙ sym p.1.0.2,
    q.1.0.3 ∙ one.1.3 ∙ sym p.1.0.3,
  ),
  (
    p.2.0.0 ∙ one.2.0 ∙ sym q.2.0.0,
    p.2.0.1 ∙ one.2.1 ∙ sym q.2.0.1,
    p.2.0.2 ∙ one.2.2 ∙ sym q.2.0.2,
    p.2.0.3 ∙ one.2.3 ∙ sym q.2.0.3,
  ),
)

-- those of each link
pub still_each : (bs cs : List RingBus) (ds es : List RingDriver) → EachRelated OneLink bs ds →
    EachRelated SameBus bs cs → EachRelated SameDriver ds es → EachRelated OneLink cs es
still_each [] [] [] [] one bus driver = tt
still_each (b ∷ bs) (c ∷ cs) (d ∷ ds) (e ∷ es) one bus driver =
    (still_one b c d e one.0 bus.0 driver.0, still_each bs cs ds es one.1 bus.1 driver.1)
still_each [] [] [] (e ∷ es) one bus driver = absurd driver
still_each [] [] (d ∷ ds) es one bus driver = absurd one
still_each [] (c ∷ cs) ds es one bus driver = absurd bus
still_each (b ∷ bs) [] ds es one bus driver = absurd bus
still_each (b ∷ bs) (c ∷ cs) [] es one bus driver = absurd one
still_each (b ∷ bs) (c ∷ cs) (d ∷ ds) [] one bus driver = absurd driver

-- those of a node
pub still_one_node : (b c : NodeBus) (d e : NodeDriver) → OneNode b d → SameNodeBus b c → SameNodeDriver d e →
    OneNode c e
still_one_node b c d e one bus driver = (
  driver.0 ∙ one.0 ∙ sym bus.0,
  still_each b.rings.items c.rings.items d.rings.items e.rings.items one.1 bus.1 driver.1,
)
