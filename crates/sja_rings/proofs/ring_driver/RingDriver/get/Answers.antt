use Rattle.std.proofs.Common.{refl, le_refl}
use Rattle.rtrb.specs.Ring.{known_items, received}
use Rattle.sja_rings.specs.Ends.{reach_up}
use Rattle.sja_rings.specs.Carrying.{same_producer}
use Rattle.sja_rings.proofs.Seen.{seen_popped}
use Rattle.sja_rings.proofs.ring_driver.RingDriver.get.Goals as goal

pub returns-clause-same : goal.returns-clause-same
returns-clause-same c =
    let end = c.args.self.now in let now = c.pop.new.self in (
      refl,
      c.pop.ensures.ring,
      same_producer end.up,
      le_refl (reach_up end),
      seen_popped _ c.pop.result (received end.down) (received now) (known_items end.down) (known_items now)
          c.pop.ensures.ok c.pop.ensures.empty c.pop.ensures.succeeds,
    )
