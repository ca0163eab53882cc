use Rattle.std.proofs.Common.{◌≡◌, ℕ, ◌+◌, ◌-◌, None, arith, rules, length}
use Rattle.std.specs.Prelude.{Err}
use Rattle.sja_journal.specs.declared.bus_fault.BusFault.{BusFault}
use Rattle.sja_bus.specs.Moment.{Moment, moment, Keeps}
use Rattle.sja_bus.specs.Several.{BitInOrder, WorksIf, StopsBits}
use Rattle.sja_bus.specs.Inside.RunningOn.{AnyBit, IsSoFar}
use Rattle.lemmas.proofs.Results.{err_is}
use Rattle.sja_bus.proofs.AllNodes.Many.{ends_kept, links_kept}
use Rattle.sja_bus.proofs.AllNodes.SoFar.{keeps_refl, none_yet, and_one, and_more, keeps_trans, still_for, breaks_later}
use Rattle.sja_bus.proofs.bus.Bus.bits.Goals as goal
use Rattle.sja_bus.proofs.bus.Bus.bits.Goals.{After-bit, After-run_untaken_bits}
use Rattle.sja_bus.proofs.bus.Bus.bits.Goals.{else-to_rest-via-then-to_rest+else-at_rest, else-to_rest-via-else-to_rest}

-- before a bit some node works, where that was asked for
works : (g : _) (c : After-bit g) → WorksIf c.args.to_rest (moment c.loop-run.self c.loop-run.links c.loop-run.board)
works g c = λ yes. elim c.else-to_rest.branch [
  | else-to_rest-via-then-to_rest+else-at_rest w ↦ w.at_rest.ensures.busy
      c.loop-run.invariant.far.right w.if-at_rest.false
  | else-to_rest-via-else-to_rest w ↦ let no = w.if-to_rest.false in absurd cc
]

-- what the bits so far keep, and a bit that came to its end or didn't
kept : (g : _) (c : After-bit g) → Keeps g.E.BusEnd g.B.Board
    (moment c.args.self.now c.args.links.now c.args.board.now) (moment c.bit.new.self c.bit.new.links c.bit.new.board)
kept g c =
    keeps_trans g.E.BusEnd g.B.Board g.met.E.BusEnd.same_trans g.met.B.Board.kept_trans
    (moment c.args.self.now c.args.links.now c.args.board.now)
    (moment c.loop-run.self c.loop-run.links c.loop-run.board)
    (moment c.bit.new.self c.bit.new.links c.bit.new.board) c.loop-run.invariant.far.keeps
    c.bit.ensures.keeps

-- one that did is one more
one_more : (g : _) (c : After-run_untaken_bits g) →
    WorksIf c.args.to_rest (moment c.loop-run.self c.loop-run.links c.loop-run.board) → IsSoFar g.E.BusEnd g.B.Board
    (BitInOrder g.E.BusEnd g.B.Board) (WorksIf c.args.to_rest)
    (moment c.args.self.now c.args.links.now c.args.board.now) (c.loop-run.run + 1)
    (moment c.bit.new.self c.bit.new.links c.bit.new.board)
one_more g c before =
    let ok = c.in_ok-bit.ensures in
    and_one g.E.BusEnd g.B.Board (BitInOrder g.E.BusEnd g.B.Board) g.met.E.BusEnd.same_trans
    g.met.B.Board.kept_trans (WorksIf c.args.to_rest)
    (moment c.args.self.now c.args.links.now c.args.board.now)
    (moment c.loop-run.self c.loop-run.links c.loop-run.board)
    (moment c.bit.new.self c.bit.new.links c.bit.new.board) c.loop-run.run c.loop-run.invariant.far before ok.bit
    (record { bit = ok.bit; takes = λ first. ok.takes })

-- a bit after the first one is in order
later : (g : _) (c : After-run_untaken_bits g) (k : ℕ) (x y : Moment _ _) → AnyBit g.E.BusEnd g.B.Board k x y →
    BitInOrder g.E.BusEnd g.B.Board ((c.loop-run.run + 1) + k) x y
later g c k x y one = record { bit = one; takes = λ first. absurd (omega (arith, first)) }

-- what they and further ones keep
kept_on : (g : _) (c : After-run_untaken_bits g) →
    Keeps g.E.BusEnd g.B.Board (moment c.args.self.now c.args.links.now c.args.board.now)
    (moment c.bit.new.self c.bit.new.links c.bit.new.board) →
    Keeps g.E.BusEnd g.B.Board (moment c.bit.new.self c.bit.new.links c.bit.new.board)
    (moment c.run_untaken_bits.new.self c.run_untaken_bits.new.links c.run_untaken_bits.new.board) →
    Keeps g.E.BusEnd g.B.Board (moment c.args.self.now c.args.links.now c.args.board.now)
    (moment c.run_untaken_bits.new.self c.run_untaken_bits.new.links c.run_untaken_bits.new.board)
kept_on g c = keeps_trans g.E.BusEnd g.B.Board g.met.E.BusEnd.same_trans g.met.B.Board.kept_trans
    (moment c.args.self.now c.args.links.now c.args.board.now) (moment c.bit.new.self c.bit.new.links c.bit.new.board)
    (moment c.run_untaken_bits.new.self c.run_untaken_bits.new.links c.run_untaken_bits.new.board)

pub returns-in_err-most-clause-keeps : goal.returns-in_err-most-clause-keeps
returns-in_err-most-clause-keeps g c = keeps_refl g.E.BusEnd g.B.Board g.met.E.BusEnd.same_refl
    g.met.B.Board.kept_refl (moment c.args.self.now c.args.links.now c.args.board.now)

pub loop-run-init : goal.loop-run-init
loop-run-init g c = record {
  few = omega arith;
  far = none_yet g.E.BusEnd g.B.Board (BitInOrder g.E.BusEnd g.B.Board) g.met.E.BusEnd.same_refl
      g.met.B.Board.kept_refl (WorksIf c.args.to_rest)
      (moment c.args.self.now c.args.links.now c.args.board.now) c.in_ok-most.ensures.right;
}

pub bit-requires-clause-ends : goal.bit-requires-clause-ends
bit-requires-clause-ends g c =
    let keeps = c.loop-run.invariant.far.keeps in
    ends_kept g.E.BusEnd.node g.E.BusEnd.same g.met.E.BusEnd.same_node c.args.links.now c.loop-run.links
    (length c.args.self.now.journals) (length c.loop-run.self.journals) keeps.nodes keeps.sames c.requires.ends

pub bit-requires-clause-links : goal.bit-requires-clause-links
bit-requires-clause-links g c =
    let keeps = c.loop-run.invariant.far.keeps in
    links_kept g.E.BusEnd.links g.E.BusEnd.same g.met.E.BusEnd.same_links c.args.self.now.starts c.loop-run.self.starts
    c.args.links.now c.loop-run.links keeps.starts keeps.sames c.requires.links

pub returns-in_err-bit-clause-keeps : goal.returns-in_err-bit-clause-keeps
returns-in_err-bit-clause-keeps g c = kept g (goal.at.returns-in_err-bit-clause-keeps g c).After-bit

pub returns-in_err-bit-clause-reason : goal.returns-in_err-bit-clause-reason
returns-in_err-bit-clause-reason g c =
    let f = c.in_err-bit.field-0.0 in let far = c.loop-run.invariant.far in
    let more = c.loop-run-test.true in let most = c.in_ok-most.ensures.count in
    let is : c.from_residual-in_err-bit.result ≡ Err f = search rules in
    let P : BusFault → Type 0 = λ x. c.args.self.now.fault ≡ None →
    StopsBits g.E.BusEnd g.B.Board c.args.to_rest c.args.count
    (moment c.args.self.now c.args.links.now c.args.board.now) (moment c.bit.new.self c.bit.new.links c.bit.new.board)
    x in
    err_is P c.from_residual-in_err-bit.result f is (λ _. record {
      mid = moment c.loop-run.self c.loop-run.links c.loop-run.board;
      run = c.loop-run.run;
      early = omega (arith, more, most);
      bits = far.bits;
      before = works g (goal.at.returns-in_err-bit-clause-reason g c).After-bit;
      stops = c.in_err-bit.ensures.reason far.right;
      run_so_far = c.in_err-bit.ensures.unrun.0;
      left_so_far = c.in_err-bit.ensures.unrun.1;
    })

pub run_untaken_bits-requires : goal.run_untaken_bits-requires
run_untaken_bits-requires g c =
    let fit = c.requires in let one = c.in_ok-bit.ensures.bit in let so_far = c.loop-run.invariant.far.left in
    let next = one.left in let most = c.in_ok-most.ensures.left in record {
      fit = still_for g.E.BusEnd g.B.Board g.met.E.BusEnd.same_node g.met.E.BusEnd.same_links
          (moment c.args.self.now c.args.links.now c.args.board.now)
          (moment c.bit.new.self c.bit.new.links c.bit.new.board)
          (kept g (goal.at.run_untaken_bits-requires g c).After-bit)
          (record { ends = fit.ends; many = fit.links; ports = fit.ports });
      right = one.right;
      most = omega (arith, so_far, next, most);
    }

pub returns-in_err-run-clause-keeps : goal.returns-in_err-run-clause-keeps
returns-in_err-run-clause-keeps g c =
    let at = goal.at.returns-in_err-run-clause-keeps g c in
    kept_on g at.After-run_untaken_bits (kept g at.After-bit) c.in_err-run.ensures.stops.keeps

pub returns-in_err-run-clause-reason : goal.returns-in_err-run-clause-reason
returns-in_err-run-clause-reason g c =
    let E = g.E.BusEnd in let B = g.B.Board in let to_rest = c.args.to_rest in let f = c.in_err-run.field-0.0 in
    let more = c.loop-run-test.true in let most = c.in_ok-most.ensures.count in
    let was = moment c.args.self.now c.args.links.now c.args.board.now in
    let now = moment c.run_untaken_bits.new.self c.run_untaken_bits.new.links c.run_untaken_bits.new.board in
    let at = goal.at.returns-in_err-run-clause-reason g c in
    let is : c.from_residual-in_err-run.result ≡ Err f = search rules in
    let P : BusFault → Type 0 = λ x. c.args.self.now.fault ≡ None → StopsBits E B to_rest c.args.count was now x in
    err_is P c.from_residual-in_err-run.result f is (λ _. breaks_later E B.orders_are (BitInOrder E B)
    (AnyBit E B) (WorksIf to_rest) was (moment c.bit.new.self c.bit.new.links c.bit.new.board) now (c.loop-run.run + 1)
    (c.in_ok-most.most - (c.loop-run.run + 1)) c.args.count f (omega (arith, more, most))
    (later g at.After-run_untaken_bits) (one_more g at.After-run_untaken_bits (works g at.After-bit)).bits
    c.in_err-run.ensures.stops.reason)

pub loop-run-preserved : goal.loop-run-preserved
loop-run-preserved g c =
    let at = goal.at.loop-run-preserved g c in
    let more = c.loop-run-test.true in let most = c.in_ok-run.ensures.most in record {
      few = omega (arith, more, most);
      far = and_more g.E.BusEnd g.B.Board (BitInOrder g.E.BusEnd g.B.Board) g.met.E.BusEnd.same_trans
          g.met.B.Board.kept_trans (WorksIf c.args.to_rest)
          (moment c.args.self.now c.args.links.now c.args.board.now)
          (moment c.bit.new.self c.bit.new.links c.bit.new.board)
          (moment c.run_untaken_bits.new.self c.run_untaken_bits.new.links
          c.run_untaken_bits.new.board) (c.loop-run.run + 1)
          (one_more g at.After-run_untaken_bits (works g at.After-bit))
          (AnyBit g.E.BusEnd g.B.Board) c.in_ok-run.field-0
          (later g at.After-run_untaken_bits) c.in_ok-run.ensures.runs;
    }
