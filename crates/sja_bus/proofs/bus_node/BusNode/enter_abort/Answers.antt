use Rattle.std.proofs.Common.{sym, subst}
use Rattle.std.proofs.lemmas.Result.{on_ok_weaker}
use Rattle.can_node.specs.Stands.{DrivesNext}
use Rattle.sja_bus.specs.declared.bus_node.BusNode.{BusNode}
use Rattle.sja_bus.proofs.ItemsTaken.Takings.{bus_node_entered}
use Rattle.sja_bus.proofs.bus_node.BusNode.enter_abort.Goals as goal

pub returns-clause-ready : goal.returns-clause-ready
returns-clause-ready c =
    let o = c.enter.ensures.others in
    let was : BusNode = record c.args.self.now { untold = c.args.untold; drives = c.drive-self.result } in
    let Q : BusNode → Type 0 = λ s. DrivesNext s.node s.drives in
    let bus_node = c.requires.bus_node in
    on_ok_weaker c.enter.result
    (λ f. record {
      sound = f c.requires.follows c.requires.reads;
      bus_node = bus_node_entered was c.enter.new.self o c.enter.ensures.room
          (record { own = bus_node.own; few = bus_node.few; most = bus_node.most });
      drives =
          subst Q (sym o) c.drive-self.ensures;
    })
    c.enter.ensures.sound
