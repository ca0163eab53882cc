use Rattle.std.proofs.Common.{◌≡◌, ◌+◌, ◌-◌, ◌<◌, ℕ, suc, true, false, Bool, List, sym, ◌∙◌, subst, arith}
use Rattle.sja_driver.specs.StepRuns.{StepRun}
use Rattle.sja_serial.specs.Bits.{TakesBit}
use Rattle.sja_serial.specs.Inside.Rounds.{LooksAt, TakesIrq}
use Rattle.sja_serial.specs.Inside.Rounds.TakesIrq.{none_more, active, spent, one_bit}
use Rattle.sja_serial.specs.Serial.{SerialValue, StandsBy, all_acts}
use Rattle.sja_serial.proofs.WholeRun.GoingOn.{stands_by_bit}
use Rattle.sja_serial.proofs.serial_run.SerialRun.irq_turn.Given.{Over}
use Rattle.sja_serial.proofs.serial_run.SerialRun.irq_turn.Goals.{After-irq}
use Rattle.sja_serial.proofs.serial_run.SerialRun.irq_turn.Goals as goal

-- the line was looked at, and found so
looks : (g : Over) (c : After-irq g) (step_runs : List (List StepRun)) (line : Bool) → c.irq.result ≡ line →
    StandsBy g.setup c.loop.self step_runs →
    LooksAt g.setup step_runs c.args.node c.loop.self c.irq.new.self line
looks g c step_runs line is h = record {
  line_is = λ p. sym is ∙ c.irq.ensures.line (all_acts step_runs) h.stands p;
  by = c.irq.ensures.by step_runs h;
  bus = c.irq.ensures.bus;
  ports = c.irq.ensures.ports;
  bits = c.irq.ensures.bits;
}

-- one bit at least is left of those that are asked for
one_left : (n k : ℕ) → k < n → suc (n - (k + 1)) ≡ n - k
one_left n k less = omega (arith, less)

pub returns-then-irq : goal.returns-then-irq
returns-then-irq g c = λ step_runs h.
    let at = (goal.at.returns-then-irq g c).After-irq in let i = c.loop.invariant step_runs h in
    let n = c.args.count in let k = c.loop.counter in let now = c.irq.new.self in
    i.goes now true (subst (λ (m : ℕ). TakesIrq g.setup step_runs c.args.node m c.loop.self now true)
    (one_left n k c.loop-test.true) (active (n - (k + 1)) c.loop.self now
    (looks g at step_runs true c.if-irq.true i.by)))

pub returns-then-bits_left-eq0 : goal.returns-then-bits_left-eq0
returns-then-bits_left-eq0 g c = λ step_runs h.
    let at = (goal.at.returns-then-bits_left-eq0 g c).After-irq in let i = c.loop.invariant step_runs h in
    let n = c.args.count in let k = c.loop.counter in let now = c.irq.new.self in
    let left = c.bits_left.ensures.left in let none = c.if-bits_left-eq0.true in
    i.goes now false (subst (λ (m : ℕ). TakesIrq g.setup step_runs c.args.node m c.loop.self now false)
    (one_left n k c.loop-test.true) (spent (n - (k + 1)) c.loop.self now
    (looks g at step_runs false c.if-irq.false i.by) (omega (arith, left, none))))

pub loop-preserved : goal.loop-preserved
loop-preserved g c = λ step_runs h.
    let at = (goal.at.loop-preserved g c).After-irq in let i = c.loop.invariant step_runs h in
    let n = c.args.count in let k = c.loop.counter in let mid = c.irq.new.self in let next = c.run_one_bit.new.self in
    let look = looks g at step_runs false c.if-irq.false i.by in
    let bit : TakesBit g.setup (all_acts step_runs) mid next =
    c.run_one_bit.ensures (all_acts step_runs) look.by.stands in record {
      by = stands_by_bit g.setup step_runs mid next bit look.by;
      goes = λ last whole rest. i.goes last whole
          (subst (λ (m : ℕ). TakesIrq g.setup step_runs c.args.node m c.loop.self last whole)
          (one_left n k c.loop-test.true) (one_bit (n - (k + 1)) c.loop.self mid next last whole look bit rest));
    }

pub returns : goal.returns
returns g c = λ step_runs h.
    let i = c.loop.invariant step_runs h in let far = c.loop-test.false in
    let none : 0 ≡ c.args.count - c.loop.counter = omega (arith, far) in
    i.goes c.loop.self true (subst (λ (m : ℕ). TakesIrq g.setup step_runs c.args.node m c.loop.self c.loop.self true)
    none (none_more c.loop.self))
