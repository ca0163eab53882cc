use Rattle.std.proofs.Common.{◌≡◌, refl, arith, rules, inr}
use Rattle.std.specs.Prelude.{◌⊎◌, Err}
use Rattle.lemmas.proofs.Related.{each_trans}
use Rattle.sja_bus.specs.Inside.Refusing.{BusNodeRefuses, BusNodeFull, BusNodeStops}
use Rattle.sja_bus.specs.Inside.Rows.{BusNodeTurns}
use Rattle.sja_bus.proofs.AllNodes.Many.{goes_all_trans, done_all}
use Rattle.sja_bus.proofs.AllNodes.BitAfterBit.{facts_of_bit}
use Rattle.sja_bus.proofs.AllNodes.Begins.{begins_turned}
use Rattle.sja_bus.proofs.AllNodes.Rows.{stay_on_bus}
use Rattle.sja_bus.proofs.AllNodes.Underway.{underway_none}
use Rattle.sja_bus.proofs.ItemsTaken.TakenBefore.{row_takes}
use Rattle.lemmas.proofs.Results.{err_is}
use Rattle.sja_bus.proofs.all_nodes.bit_of_all.Goals as goal

pub sample_from-requires : goal.sample_from-requires
sample_from-requires g c =
    let ports = g.B.Board.ports c.args.board.now in record {
      on_bus = stay_on_bus g.E.BusEnd.node g.E.BusEnd.same g.met.E.BusEnd.same_node c.args.bus_nodes.now
          c.open_all.new.bus_nodes
          c.args.links.now c.open_all.new.links ports ports c.open_all.auto.bus_nodes c.open_all.ensures.sames refl
          c.in_ok-open_all.ensures.ready c.requires.on_bus;
    }

pub returns-clause-sames : goal.returns-clause-sames
returns-clause-sames g c = each_trans g.E.BusEnd.same g.met.E.BusEnd.same_trans c.args.links.now c.open_all.new.links
    c.sample_from.new.links c.open_all.ensures.sames c.sample_from.ensures.sames

pub returns-in_err-sample_from-clause-sames : goal.returns-in_err-sample_from-clause-sames
returns-in_err-sample_from-clause-sames g c = each_trans g.E.BusEnd.same g.met.E.BusEnd.same_trans c.args.links.now
    c.open_all.new.links c.sample_from.new.links c.open_all.ensures.sames c.sample_from.ensures.sames

pub returns-clause-goes : goal.returns-clause-goes
returns-clause-goes g c =
    let E = g.E.BusEnd in let B = g.B.Board in let bus_nodes = c.open_all.new.bus_nodes in
    let row = underway_none E.same E.stands g.met.E.BusEnd.same_refl B.ports B.told B.kept g.met.B.Board.kept_refl
    c.args.struck c.level_of-level.result bus_nodes c.open_all.new.links c.args.board.now
    c.in_ok-open_all.ensures.ready in
    let did = c.in_ok-sample_from.ensures.row bus_nodes c.open_all.new.links c.args.board.now row in
    goes_all_trans g.E.BusEnd.same g.E.BusEnd.stands g.met.E.BusEnd.same_trans c.args.bus_nodes.now
    c.open_all.new.bus_nodes
    c.sample_from.new.bus_nodes c.args.links.now c.open_all.new.links c.sample_from.new.links
    c.open_all.auto.bus_nodes c.in_ok-open_all.ensures.goes did.2.goes

pub returns-clause-bit : goal.returns-clause-bit
returns-clause-bit g c =
    let E = g.E.BusEnd in let B = g.B.Board in let bus_nodes = c.open_all.new.bus_nodes in
    let row = underway_none E.same E.stands g.met.E.BusEnd.same_refl B.ports B.told B.kept g.met.B.Board.kept_refl
    c.args.struck c.level_of-level.result bus_nodes c.open_all.new.links c.args.board.now
    c.in_ok-open_all.ensures.ready in
    let did = c.in_ok-sample_from.ensures.row bus_nodes c.open_all.new.links c.args.board.now row in
    let u = did.2 in let all = did.1 in let count = u.count in record {
      opened = c.open_all.new.bus_nodes;
      level = c.level_of-level.result;
      count = c.open_all.auto.bus_nodes;
      opens = c.in_ok-open_all.ensures.opens;
      untold = c.in_ok-open_all.ensures.untold;
      is_level = c.level_of-level.ensures;
      turns = done_all (BusNodeTurns (B.told c.args.board.now c.sample_from.new.board)
          (B.kept c.args.board.now c.sample_from.new.board) c.args.struck c.level_of-level.result) did.0 bus_nodes
          c.sample_from.new.bus_nodes (omega (arith, all, count)) u.done;
    }

pub returns-clause-rooms : goal.returns-clause-rooms
returns-clause-rooms g c = λ n h. c.sample_from.ensures.rooms n (c.open_all.ensures.rooms n h)

pub returns-in_err-sample_from-clause-rooms : goal.returns-in_err-sample_from-clause-rooms
returns-in_err-sample_from-clause-rooms g c = λ n h. c.sample_from.ensures.rooms n (c.open_all.ensures.rooms n h)

pub returns-in_err-open_all-clause-rooms : goal.returns-in_err-open_all-clause-rooms
returns-in_err-open_all-clause-rooms g c = c.open_all.ensures.rooms

pub returns-clause-ready : goal.returns-clause-ready
returns-clause-ready g c =
    let E = g.E.BusEnd in let B = g.B.Board in let bus_nodes = c.open_all.new.bus_nodes in
    let row = underway_none E.same E.stands g.met.E.BusEnd.same_refl B.ports B.told B.kept g.met.B.Board.kept_refl
    c.args.struck c.level_of-level.result bus_nodes c.open_all.new.links c.args.board.now
    c.in_ok-open_all.ensures.ready in
    let did = c.in_ok-sample_from.ensures.row bus_nodes c.open_all.new.links c.args.board.now row in
    did.2.ready

pub returns-in_err-open_all-clause-board : goal.returns-in_err-open_all-clause-board
returns-in_err-open_all-clause-board g c = (refl, λ k far. g.met.B.Board.kept_refl c.args.board.now k)

pub returns-clause-board : goal.returns-clause-board
returns-clause-board g c =
    let bus_nodes = c.open_all.auto.bus_nodes in (
      c.sample_from.ensures.board.0,
      λ k far. c.sample_from.ensures.board.1 k (omega (arith, far, bus_nodes)),
    )

pub returns-in_err-sample_from-clause-board : goal.returns-in_err-sample_from-clause-board
returns-in_err-sample_from-clause-board g c =
    let bus_nodes = c.open_all.auto.bus_nodes in (
      c.sample_from.ensures.board.0,
      λ k far. c.sample_from.ensures.board.1 k (omega (arith, far, bus_nodes)),
    )

pub returns-in_err-sample_from-clause-stops : goal.returns-in_err-sample_from-clause-stops
returns-in_err-sample_from-clause-stops g c =
    let E = g.E.BusEnd in let B = g.B.Board in let bus_nodes = c.open_all.new.bus_nodes in
    let row = underway_none E.same E.stands g.met.E.BusEnd.same_refl B.ports B.told B.kept g.met.B.Board.kept_refl
    c.args.struck c.level_of-level.result bus_nodes c.open_all.new.links c.args.board.now
    c.in_ok-open_all.ensures.ready in
    let O = g.B.Board.orders_are c.args.board.now in
    let did = c.in_ok-open_all.ensures in let f = c.in_err-sample_from.field-0.0 in
    let was = c.args.bus_nodes.now in let now = c.sample_from.new.bus_nodes in
    let is : c.from_residual-in_err-sample_from.result ≡ Err f = search rules in
    let P : _ → Type 0 = λ x. (BusNodeRefuses E was now c.args.links.now c.sample_from.new.links x
    ⊎ BusNodeFull E O was now c.args.links.now c.sample_from.new.links x)
    ⊎ BusNodeStops E O was now c.args.links.now x in
    err_is P c.from_residual-in_err-sample_from.result f is
    (inr (record {
      opened = c.open_all.new.bus_nodes;
      between = c.open_all.new.links;
      count = c.open_all.auto.bus_nodes;
      opens = did.opens;
      goes = did.goes;
      begins = did.within;
      rooms = did.rooms;
      breaks = c.in_err-sample_from.ensures.broken bus_nodes c.open_all.new.links c.args.board.now row;
    }))

pub returns-clause-takes : goal.returns-clause-takes
returns-clause-takes g c =
    let E = g.E.BusEnd in let B = g.B.Board in let bus_nodes = c.open_all.new.bus_nodes in
    let opening = c.in_ok-open_all.ensures in let level = c.level_of-level.result in
    let told = B.told c.args.board.now c.sample_from.new.board in let kept =
    B.kept c.args.board.now c.sample_from.new.board in
    let row = underway_none E.same E.stands g.met.E.BusEnd.same_refl B.ports B.told B.kept g.met.B.Board.kept_refl
    c.args.struck level bus_nodes c.open_all.new.links c.args.board.now opening.ready in
    let did = c.in_ok-sample_from.ensures.row bus_nodes c.open_all.new.links c.args.board.now row in
    let u = did.2 in let all = did.1 in let count = u.count in
    row_takes E (B.orders_are c.args.board.now) told kept c.args.struck level c.args.bus_nodes.now bus_nodes
    c.sample_from.new.bus_nodes
    c.args.links.now c.open_all.new.links c.open_all.auto.bus_nodes count opening.ready u.ready opening.opens
    (done_all (BusNodeTurns told kept c.args.struck level) did.0 bus_nodes c.sample_from.new.bus_nodes
    (omega (arith, all, count)) u.done)
    opening.goes opening.dry

pub returns-clause-within : goal.returns-clause-within
returns-clause-within g c =
    let E = g.E.BusEnd in let B = g.B.Board in let bus_nodes = c.open_all.new.bus_nodes in
    let level = c.level_of-level.result in
    let told = B.told c.args.board.now c.sample_from.new.board in let kept =
    B.kept c.args.board.now c.sample_from.new.board in
    let row = underway_none E.same E.stands g.met.E.BusEnd.same_refl B.ports B.told B.kept g.met.B.Board.kept_refl
    c.args.struck level bus_nodes c.open_all.new.links c.args.board.now c.in_ok-open_all.ensures.ready in
    let did = c.in_ok-sample_from.ensures.row bus_nodes c.open_all.new.links c.args.board.now row in
    let u = did.2 in let all = did.1 in let count = u.count in
    begins_turned E.links c.args.links.now told kept c.args.struck level c.args.bus_nodes.now bus_nodes
    c.sample_from.new.bus_nodes c.open_all.auto.bus_nodes c.in_ok-open_all.ensures.within
    (done_all (BusNodeTurns told kept c.args.struck level) did.0 bus_nodes c.sample_from.new.bus_nodes
    (omega (arith, all, count)) u.done)

pub returns-clause-facts : goal.returns-clause-facts
returns-clause-facts g c =
    let E = g.E.BusEnd in let B = g.B.Board in let bus_nodes = c.open_all.new.bus_nodes in
    let level = c.level_of-level.result in
    let row = underway_none E.same E.stands g.met.E.BusEnd.same_refl B.ports B.told B.kept g.met.B.Board.kept_refl
    c.args.struck level bus_nodes c.open_all.new.links c.args.board.now c.in_ok-open_all.ensures.ready in
    let did = c.in_ok-sample_from.ensures.row bus_nodes c.open_all.new.links c.args.board.now row in
    let all = did.1 in let count = did.2.count in let same = c.open_all.auto.bus_nodes in
    let ports = c.requires.on_bus.ports in
    let turns = done_all (BusNodeTurns (B.told c.args.board.now c.sample_from.new.board)
    (B.kept c.args.board.now c.sample_from.new.board) c.args.struck level) did.0 bus_nodes c.sample_from.new.bus_nodes
    (omega (arith, all, count)) did.2.done in λ k few.
    facts_of_bit B g.met.B.Board.facts_go_on c.args.struck level bus_nodes c.sample_from.new.bus_nodes c.args.board.now
    c.sample_from.new.board (omega (arith, ports, same)) c.sample_from.ensures.board turns
    (λ m near. c.in_ok-open_all.ensures.facts m (omega (arith, near, same))) k (omega (arith, few, same))
