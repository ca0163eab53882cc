use Rattle.std.proofs.Common.{rules, ◌≡◌, ◌<◌, None, length, subst, arith}
use Rattle.sja_journal.specs.Records.{record_of}
use Rattle.sja_bus_rules.specs.Buses.{BusValue}
use Rattle.sja_bus_rules.specs.Wire.{journal_at}
use Rattle.sja_bus.specs.BusPlaces.{HasPlace}
use Rattle.sja_bus.proofs.AllNodes.Running.{count_is}
use Rattle.sja_bus.proofs.Resting.Placed.{place_among}
use Rattle.sja_bus.proofs.bus.Bus.place.Goals as goal

pub returns : goal.returns
returns c =
    let b = c.self.inside in let bus_nodes = b.bus_nodes.items in let node = c.args.node in
    let P : BusValue → Type 0 = λ w. w.fault ≡ None → node < length w.journals →
    HasPlace (record_of (journal_at w.journals node)) c.place.result in
    λ f. subst P c.self.view_is (λ right few.
    let near : node < length bus_nodes = let n = count_is bus_nodes in omega (arith, few, n) in
    place_among bus_nodes c.index.result.now c.place.result node (c.self.invariant.0.bus right).ready near
    (search rules) c.place.ensures) f c.requires
