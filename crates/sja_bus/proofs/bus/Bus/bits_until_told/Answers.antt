use Rattle.std.proofs.Common.{arith}
use Rattle.std.proofs.lemmas.Result.{IfErr-weaker}
use Rattle.sja_bus.specs.Moment.{moment}
use Rattle.sja_bus.specs.Several.AreBits.{no_bit}
use Rattle.sja_bus.specs.UntilTold.{WorksUntold}
use Rattle.sja_bus.specs.Inside.RunningOn.{AnyBit}
use Rattle.sja_bus.proofs.AllNodes.SoFar.{breaks_later, each_count, keeps_refl, both_counts}
use Rattle.sja_bus.proofs.AllNodes.UntilTold.{held_of, ended_of}
use Rattle.sja_bus.proofs.bus.Bus.bits_until_told.Goals as goal

pub returns-in_err-most-clause-keeps : goal.returns-in_err-most-clause-keeps
returns-in_err-most-clause-keeps g c = keeps_refl g.E.BusEnd g.B.Board g.met.E.BusEnd.same_refl
    g.met.B.Board.kept_refl (moment c.args.self.now c.args.links.now c.args.board.now)

pub returns-clause-bits : goal.returns-clause-bits
returns-clause-bits g c =
    each_count c.run_until_told.result (λ n so_far. so_far.bits) c.run_until_told.ensures.runs

pub returns-clause-reason : goal.returns-clause-reason
returns-clause-reason g c =
    let E = g.E.BusEnd in let B = g.B.Board in let most = c.in_ok-most.ensures.count in
    let was = moment c.args.self.now c.args.links.now c.args.board.now in
    let now = moment c.run_until_told.new.self c.run_until_told.new.links c.run_until_told.new.board in
    IfErr-weaker c.run_until_told.result _ _ (λ f stops right. breaks_later E B.orders_are (AnyBit E B)
    (AnyBit E B) (WorksUntold c.args.to_rest was) was was now 0 c.in_ok-most.most c.args.count f
    (omega (arith, most)) (λ k x y one. one)
    (no_bit was) stops.reason) c.run_until_told.ensures.stops

pub returns-clause-none : goal.returns-clause-none
returns-clause-none g c = λ zero.
    held_of (g.B.Board.orders_are c.args.board.now) c.args.to_rest c.in_ok-most.most c.args.count c.args.self.now
    c.in_ok-most.ensures.whole (c.run_until_told.ensures.none zero)

pub returns-clause-longest : goal.returns-clause-longest
returns-clause-longest g c =
    let was = moment c.args.self.now c.args.links.now c.args.board.now in
    let now = moment c.run_until_told.new.self c.run_until_told.new.links c.run_until_told.new.board in
    both_counts c.run_until_told.result (λ n so_far ends some. ended_of g.B.Board c.args.to_rest c.in_ok-most.most
    c.args.count n was now c.in_ok-most.ensures.whole so_far.left (ends some)) c.run_until_told.ensures.runs
    c.run_until_told.ensures.longest
