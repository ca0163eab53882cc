use Rattle.std.proofs.Common.{◌≡◌, List, length, refl, sym, subst, arith}
use Rattle.std.specs.Prelude.{OnOk}
use Rattle.std.specs.Vec.{with_items}
use Rattle.std.proofs.lemmas.List.{with_items_is}
use Rattle.sja_journal.specs.Links.{AreEnds, HaveLinks}
use Rattle.sja_rings.specs.declared.node_bus.NodeBus.{NodeBus}
use Rattle.sja_rings.specs.NodeRings.{links_of_bus, node_of_bus, ShowsNothingUp}
use Rattle.sja_bus_rules.specs.Buses.{AllDry}
use Rattle.sja_threads.proofs.Rounds.GoesOn.{gathered}
use Rattle.sja_threads.proofs.Rounds.Stops.{stops_gather}
use Rattle.sja_threads.proofs.Rounds.Told.{told_gather}
use Rattle.sja_threads.proofs.bus_thread.BusThread.gather.Goals as goal

pub gather-requires : goal.gather-requires
gather-requires c = record {
  ends = subst (λ (l : List NodeBus). AreEnds node_of_bus (length c.args.self.now.bus.journals) l)
      (sym c.as_mut_slice.ensures.value) c.requires.ends;
  links = subst (λ (l : List NodeBus). HaveLinks links_of_bus c.args.self.now.bus.starts l)
      (sym c.as_mut_slice.ensures.value) c.requires.links;
}

pub returns-clause-on : goal.returns-clause-on
returns-clause-on c =
    let e = c.gather.ensures in
    let links = c.args.self.now.links in
    let those : (with_items links c.gather.new.links).items ≡ c.gather.new.links =
    with_items_is links c.gather.new.links (omega (arith, c.gather.auto.links, c.as_mut_slice.ensures.len)) in
    gathered c.args.self.now _ c.as_mut_slice.result.now c.gather.new.links c.as_mut_slice.ensures.value those e.script
    e.starts e.steps e.nodes e.sames e.bits refl refl c.gather.result e.kept e.items e.right

pub returns-clause-fault : goal.returns-clause-fault
returns-clause-fault c =
    let e = c.gather.ensures in
    let links = c.args.self.now.links in
    let those : (with_items links c.gather.new.links).items ≡ c.gather.new.links =
    with_items_is links c.gather.new.links (omega (arith, c.gather.auto.links, c.as_mut_slice.ensures.len)) in
    stops_gather c.args.self.now _ c.gather.new.self c.as_mut_slice.result.now c.gather.new.links
    c.as_mut_slice.ensures.value those e.sames c.gather.result e.lawful e.reason

pub returns-clause-told : goal.returns-clause-told
returns-clause-told c =
    let e = c.gather.ensures in
    told_gather c.args.self.now.bus.journals c.gather.new.self.journals e.nodes c.gather.result e.items

pub returns-clause-dry : goal.returns-clause-dry
returns-clause-dry c =
    let e = c.gather.ensures in
    let links = c.args.self.now.links in
    let those : (with_items links c.gather.new.links).items ≡ c.gather.new.links =
    with_items_is links c.gather.new.links (omega (arith, c.gather.auto.links, c.as_mut_slice.ensures.len)) in
    subst (λ (l : List NodeBus). OnOk c.gather.result (AllDry ShowsNothingUp c.gather.new.self.journals l))
    (sym those) e.dry
