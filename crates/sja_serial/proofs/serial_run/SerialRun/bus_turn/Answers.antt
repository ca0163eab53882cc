use Rattle.std.proofs.Common.{rules, ◌≡◌, ◌≢◌, ◌+◌, arith}
use Rattle.sja_serial.specs.Bits.{SomeWorks}
use Rattle.sja_serial.specs.Serial.{SerialValue}
use Rattle.sja_serial.proofs.ManyBits.SomeBits.{bits_none, bits_freely, some_then, some_since, bus_all, bus_spent}
use Rattle.sja_serial.proofs.serial_run.SerialRun.bus_turn.Goals as goal

pub loop-run-init : goal.loop-run-init
loop-run-init g c = record {
  most = c.run_busy_bits-run.ensures.most;
  some = λ acts h. (
    0,
    omega arith,
    bits_none g.setup acts (λ (r : SerialValue). Unit {0})
        c.run_busy_bits-run.new.self h,
  );
}

pub returns-then-bits_left-eq0-clause-turn : goal.returns-then-bits_left-eq0-clause-turn
returns-then-bits_left-eq0-clause-turn g c = λ acts h.
    let s = some_since g.setup acts c.args.self.now c.run_busy_bits-run.new.self c.loop-run.self
    c.run_busy_bits-run.result c.loop-run.run h (c.run_busy_bits-run.ensures.bits acts h)
    (c.loop-run.invariant.some acts) in
    let few = c.loop-run-test.true in let all = c.bits_left.ensures.left in
    let none : c.bits_left.result ≡ 0 = search rules in
    bus_spent g.setup acts c.args.self.now c.loop-run.self c.loop-run.run c.args.count (omega (arith, few))
    (omega (arith, all, none)) s

pub returns-then-bits_left-eq0-clause-stays : goal.returns-then-bits_left-eq0-clause-stays
returns-then-bits_left-eq0-clause-stays g c =
    let h = c.requires in (
      h.0,
      (some_since g.setup h.0 c.args.self.now c.run_busy_bits-run.new.self c.loop-run.self
          c.run_busy_bits-run.result c.loop-run.run h.1 (c.run_busy_bits-run.ensures.bits h.0 h.1)
          (c.loop-run.invariant.some h.0)).stands,
    )

pub bits_left-requires : goal.bits_left-requires
bits_left-requires g c =
    let h = c.requires in (
      h.0,
      (some_since g.setup h.0 c.args.self.now c.run_busy_bits-run.new.self c.loop-run.self
          c.run_busy_bits-run.result c.loop-run.run h.1 (c.run_busy_bits-run.ensures.bits h.0 h.1)
          (c.loop-run.invariant.some h.0)).stands,
    )

pub run_resting_bits-run-requires : goal.run_resting_bits-run-requires
run_resting_bits-run-requires g c =
    let h = c.requires in let all = c.bits_left.ensures.left in let few = c.loop-run-test.true in
    let some : c.bits_left.result ≢ 0 = search rules in (
      (
        h.0,
        (some_since g.setup h.0 c.args.self.now c.run_busy_bits-run.new.self c.loop-run.self
            c.run_busy_bits-run.result c.loop-run.run h.1 (c.run_busy_bits-run.ensures.bits h.0 h.1)
            (c.loop-run.invariant.some h.0)).stands,
      ),
      (omega (arith, all, some), (c.bits_left.ensures.lawful, omega (arith, few))),
    )

pub run_busy_bits-run-requires-then-run-count : goal.run_busy_bits-run-requires-then-run-count
run_busy_bits-run-requires-then-run-count g c =
    let h = c.requires in
    let s = some_since g.setup h.0 c.args.self.now c.run_busy_bits-run.new.self c.loop-run.self
    c.run_busy_bits-run.result c.loop-run.run h.1 (c.run_busy_bits-run.ensures.bits h.0 h.1)
    (c.loop-run.invariant.some h.0) in (
      h.0,
      (some_then g.setup h.0 (λ (r : SerialValue). Unit {0}) c.args.self.now c.loop-run.self
          c.run_resting_bits-run.new.self c.loop-run.run c.run_resting_bits-run.result s
          (c.run_resting_bits-run.ensures.bits h.0 s.stands)).stands,
    )

pub loop-run-preserved-then-run-count : goal.loop-run-preserved-then-run-count
loop-run-preserved-then-run-count g c =
    let most = c.loop-run.invariant.most in let few = c.run_resting_bits-run.ensures.most in
    let more = c.run_busy_bits-run-then-run-count.ensures.most in record {
      most = omega (arith, most, few, more);
      some = λ acts h.
          let x = c.loop-run.invariant.some acts h in let is = x.1 in
          let s = some_then g.setup acts (λ (r : SerialValue). Unit {0}) c.run_busy_bits-run.new.self
          c.loop-run.self c.run_resting_bits-run.new.self x.0 c.run_resting_bits-run.result x.2
          (c.run_resting_bits-run.ensures.bits acts x.2.stands) in (
            x.0 + c.run_resting_bits-run.result + c.run_busy_bits-run-then-run-count.result,
            omega (arith, is),
            some_then g.setup acts (λ (r : SerialValue). Unit {0}) c.run_busy_bits-run.new.self
                c.run_resting_bits-run.new.self c.run_busy_bits-run-then-run-count.new.self
                (x.0 + c.run_resting_bits-run.result)
                c.run_busy_bits-run-then-run-count.result s (bits_freely g.setup acts (SomeWorks g.setup)
                c.run_resting_bits-run.new.self c.run_busy_bits-run-then-run-count.new.self
                c.run_busy_bits-run-then-run-count.result
                (c.run_busy_bits-run-then-run-count.ensures.bits acts s.stands)),
          );
    }

pub loop-run-preserved : goal.loop-run-preserved
loop-run-preserved g c =
    let most = c.loop-run.invariant.most in let few = c.run_resting_bits-run.ensures.most in record {
      most = omega (arith, most, few);
      some = λ acts h.
          let x = c.loop-run.invariant.some acts h in let is = x.1 in (
            x.0 + c.run_resting_bits-run.result,
            omega (arith, is),
            some_then g.setup acts (λ (r : SerialValue). Unit {0}) c.run_busy_bits-run.new.self
                c.loop-run.self c.run_resting_bits-run.new.self x.0 c.run_resting_bits-run.result x.2
                (c.run_resting_bits-run.ensures.bits acts x.2.stands),
          );
    }

pub returns-clause-turn : goal.returns-clause-turn
returns-clause-turn g c = λ acts h.
    let s = some_since g.setup acts c.args.self.now c.run_busy_bits-run.new.self c.loop-run.self
    c.run_busy_bits-run.result c.loop-run.run h (c.run_busy_bits-run.ensures.bits acts h)
    (c.loop-run.invariant.some acts) in
    let most = c.loop-run-test.false in let few = c.loop-run.invariant.most in
    bus_all g.setup acts c.args.self.now c.loop-run.self c.loop-run.run c.args.count
    (omega (arith, most, few)) s

pub returns-clause-stays : goal.returns-clause-stays
returns-clause-stays g c =
    let h = c.requires in (
      h.0,
      (some_since g.setup h.0 c.args.self.now c.run_busy_bits-run.new.self c.loop-run.self
          c.run_busy_bits-run.result c.loop-run.run h.1 (c.run_busy_bits-run.ensures.bits h.0 h.1)
          (c.loop-run.invariant.some h.0)).stands,
    )
