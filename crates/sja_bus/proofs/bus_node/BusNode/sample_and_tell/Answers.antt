use Rattle.std.proofs.Common.{ℕ, refl, sym, ◌∙◌, subst}
use Rattle.sja_bus.specs.declared.bus_node.BusNode.{BusNode}
use Rattle.sja_bus.specs.Inside.BusNodeBits.{HadBit, KeepsInBit}
use Rattle.sja_bus.specs.Inside.Turning.{TellsTurn}
use Rattle.sja_bus.proofs.AtPorts.BusNodeBits.{had_fully}
use Rattle.sja_bus.proofs.bus_node.BusNode.sample_and_tell.Goals as goal

pub returns-clause-keeps : goal.returns-clause-keeps
returns-clause-keeps g c =
    let stays = c.sample_fully.ensures.stays in let tell = c.tell.ensures in
    let K : BusNode → Type 0 = λ x. KeepsInBit g.E.BusEnd g.B.Board c.args.self.now x c.args.end.now
    c.sample_fully.new.end c.args.board.now c.tell.new.board in
    subst K (sym tell.bus_node) (record {
      stays = record { is_same = stays.is_same; node = stays.node; room = stays.room };
      ports = tell.ports;
      others = λ k far. tell.others k (λ is. far (is ∙ stays.node));
    })

pub returns-in_err-outcome-clause-keeps : goal.returns-in_err-outcome-clause-keeps
returns-in_err-outcome-clause-keeps g c = record {
  stays = c.sample_fully.ensures.stays;
  ports = refl;
  others = λ k far. g.met.B.Board.kept_refl c.args.board.now k;
}

pub returns-clause-had : goal.returns-clause-had
returns-clause-had g c =
    let E = g.E.BusEnd in let B = g.B.Board in let a = c.args.board.now in let z = c.tell.new.board in
    let s = c.args.self.now in let mid : BusNode = record c.sample_fully.new.self { drives = c.drive-self.result } in
    let did = c.in_ok-outcome.ensures in let told = c.tell.ensures.told in let outcome = c.in_ok-outcome.outcome in
    let stands = c.stands-stands.result in
    let T : ℕ → Type 0 = λ n. TellsTurn (B.told a z n) a z mid stands c.tell.result told.0 in
    let H : BusNode → Type 0 = λ x. HadBit E B c.tell.result c.args.seen s x c.args.end.now c.sample_fully.new.end a z
    in
    subst H (sym c.tell.ensures.bus_node) (had_fully E B g.met.B.Board.kept_refl c.tell.result c.args.seen s mid outcome
    told.0 stands c.args.end.now c.sample_fully.new.end a z c.requires.at.ready (record {
      sound = record { follows = did.sound.follows; reads = did.sound.reads };
      bus_node = record { own = did.bus_node.own; few = did.bus_node.few; most = did.bus_node.most };
      drives = c.drive-self.ensures;
    }) did.goes did.untold did.samples did.brings did.sound.reads.begun told.1 c.stands-stands.ensures.alone
    (subst T c.sample_fully.ensures.stays.node told.2))
