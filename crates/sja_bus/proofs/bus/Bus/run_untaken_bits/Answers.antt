use Rattle.std.proofs.Common.{◌≡◌, ◌+◌, ◌-◌, ℕ, subst, arith, rules}
use Rattle.std.specs.Prelude.{Err}
use Rattle.sja_journal.specs.declared.bus_fault.BusFault.{BusFault}
use Rattle.sja_bus.specs.Moment.{moment}
use Rattle.sja_bus.specs.Several.{WorksIf}
use Rattle.sja_bus.specs.UntilTold.{WorksUntold}
use Rattle.sja_bus.specs.Inside.RunningOn.{AnyBit, IsSoFar, IsStopped}
use Rattle.lemmas.proofs.Results.{err_is}
use Rattle.sja_bus.proofs.AllNodes.SoFar.{and_more, breaks_later, keeps_trans, none_yet, so_far_as, still_for}
use Rattle.sja_bus.proofs.AllNodes.SoFar.{stopped_as}
use Rattle.sja_bus.proofs.bus.Bus.run_untaken_bits.Goals.{After-run_until_told}
use Rattle.sja_bus.proofs.bus.Bus.run_untaken_bits.Goals as goal

-- the bits so far, and so many more
more : (g : _) (c : After-run_until_told g) (n : ℕ) →
    IsSoFar g.E.BusEnd g.B.Board (AnyBit g.E.BusEnd g.B.Board)
    (WorksUntold c.args.to_rest (moment c.loop-run.self c.loop-run.links c.loop-run.board))
    (moment c.loop-run.self c.loop-run.links c.loop-run.board) n (moment c.run_until_told.new.self
    c.run_until_told.new.links c.run_until_told.new.board) →
    IsSoFar g.E.BusEnd g.B.Board (AnyBit g.E.BusEnd g.B.Board) (WorksIf c.args.to_rest)
    (moment c.args.self.now c.args.links.now c.args.board.now) (c.loop-run.run + n) (moment
    c.run_until_told.new.self c.run_until_told.new.links c.run_until_told.new.board)
more g c n on =
    let E = g.E.BusEnd in let B = g.B.Board in
    let mid = moment c.loop-run.self c.loop-run.links c.loop-run.board in
    let now = moment c.run_until_told.new.self c.run_until_told.new.links c.run_until_told.new.board in
    and_more E B (AnyBit E B) g.met.E.BusEnd.same_trans g.met.B.Board.kept_trans (WorksIf c.args.to_rest)
    (moment c.args.self.now c.args.links.now c.args.board.now) mid now c.loop-run.run c.loop-run.invariant.far
    (AnyBit E B) n (λ k x y one. one)
    (so_far_as E B (AnyBit E B) (WorksUntold c.args.to_rest mid) (WorksIf c.args.to_rest) mid now n
    (λ m both. both.0) on)

pub loop-run-init : goal.loop-run-init
loop-run-init g c = record {
  few = omega arith;
  far = none_yet g.E.BusEnd g.B.Board (AnyBit g.E.BusEnd g.B.Board) g.met.E.BusEnd.same_refl g.met.B.Board.kept_refl
      (WorksIf c.args.to_rest) (moment c.args.self.now c.args.links.now c.args.board.now) c.requires.right;
}

pub run_until_told-requires : goal.run_until_told-requires
run_until_told-requires g c =
    let far = c.loop-run.invariant.far in let early = c.loop-run-test.true in let left = far.left in
    let most = c.requires.most in record {
      fit = still_for g.E.BusEnd g.B.Board g.met.E.BusEnd.same_node g.met.E.BusEnd.same_links
          (moment c.args.self.now c.args.links.now c.args.board.now)
          (moment c.loop-run.self c.loop-run.links c.loop-run.board) far.keeps c.requires.fit;
      right = far.right;
      most = omega (arith, early, left, most);
    }

pub returns-then-bits-eq0-clause-runs : goal.returns-then-bits-eq0-clause-runs
returns-then-bits-eq0-clause-runs g c =
    let none : c.in_ok-bits.bits ≡ 0 = search rules in
    let is : c.loop-run.run + c.in_ok-bits.bits ≡ c.loop-run.run = omega (arith, none) in
    let P : ℕ → Type 0 = λ n. IsSoFar g.E.BusEnd g.B.Board (AnyBit g.E.BusEnd g.B.Board) (WorksIf c.args.to_rest)
    (moment c.args.self.now c.args.links.now c.args.board.now) n (moment c.run_until_told.new.self
    c.run_until_told.new.links c.run_until_told.new.board) in
    subst P is (more g (goal.at.returns-then-bits-eq0-clause-runs g c).After-run_until_told c.in_ok-bits.bits
    c.in_ok-bits.ensures.runs)

pub loop-run-preserved : goal.loop-run-preserved
loop-run-preserved g c =
    let early = c.loop-run-test.true in let most = c.in_ok-bits.ensures.most in record {
      few = omega (arith, early, most);
      far = more g (goal.at.loop-run-preserved g c).After-run_until_told c.in_ok-bits.bits c.in_ok-bits.ensures.runs;
    }

pub returns-in_err-bits-clause-stops : goal.returns-in_err-bits-clause-stops
returns-in_err-bits-clause-stops g c =
    let E = g.E.BusEnd in let B = g.B.Board in let far = c.loop-run.invariant.far in let f = c.in_err-bits.field-0.0 in
    let was = moment c.args.self.now c.args.links.now c.args.board.now in
    let mid = moment c.loop-run.self c.loop-run.links c.loop-run.board in
    let now = moment c.run_until_told.new.self c.run_until_told.new.links c.run_until_told.new.board in
    let early = c.loop-run-test.true in let rest = c.args.further - c.loop-run.run in
    let stops = stopped_as E B (WorksUntold c.args.to_rest mid) (WorksIf c.args.to_rest) rest mid now f
    (λ m both. both.0) c.in_err-bits.ensures.stops in
    let is : c.from_residual.result ≡ Err f = search rules in
    let P : BusFault → Type 0 = λ x. IsStopped E B (WorksIf c.args.to_rest) c.args.further was now x in
    err_is P c.from_residual.result f is (record {
      keeps = keeps_trans E B g.met.E.BusEnd.same_trans g.met.B.Board.kept_trans was mid now far.keeps stops.keeps;
      fault = stops.fault;
      reason = breaks_later E B.orders_are (AnyBit E B) (AnyBit E B) (WorksIf c.args.to_rest) was mid now
          c.loop-run.run rest c.args.further f (omega (arith, early)) (λ k x y one. one)
          far.bits stops.reason;
    })
