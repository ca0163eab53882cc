use Rattle.std.proofs.Common.{refl}
use Rattle.can_node.specs.Stands.{is_receiving}
use Rattle.sja_bus.specs.declared.bus_node.BusNode.{BusNode}
use Rattle.sja_bus.proofs.Journal.Quiet.{quiet_sound}
use Rattle.sja_bus.proofs.Links.BusNodeParts.{bus_node_stays}
use Rattle.sja_bus.proofs.bus_node.BusNode.sample_quietly.Goals as goal

pub returns-then-sample_quietly-clause-ready : goal.returns-then-sample_quietly-clause-ready
returns-then-sample_quietly-clause-ready c =
    let s = c.args.self.now in let node = c.sample_quietly.new.self in let ready = c.requires.ready in
    let quiet = c.sample_quietly.ensures.quiet c.if-sample_quietly.true in
    let shown = c.sample_quietly.ensures.shown c.if-sample_quietly.true in
    let now : BusNode = record s { node = node; journal = c.enter_bit_reserved.new.self; drives = c.drive-self.result }
    in
    record {
      sound = quiet_sound s now node s.drives c.args.seen (is_receiving s.node) ready.drives quiet shown refl
          c.enter_bit_reserved.ensures.entries refl refl refl ready.sound;
      bus_node = bus_node_stays s now refl refl c.enter_bit_reserved.ensures.room ready.bus_node;
      drives = c.drive-self.ensures;
    }

pub returns-then-sample_quietly-clause-quiet : goal.returns-then-sample_quietly-clause-quiet
returns-then-sample_quietly-clause-quiet c = λ is. record {
  untold = c.requires.told;
  told = c.requires.told;
  samples = c.sample_quietly.ensures.quiet c.if-sample_quietly.true;
  shows = c.sample_quietly.ensures.shown c.if-sample_quietly.true;
  whole = c.enter_bit_reserved.ensures.entries;
}
