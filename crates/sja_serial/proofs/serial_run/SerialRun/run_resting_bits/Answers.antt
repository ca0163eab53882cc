use Rattle.std.proofs.Common.{rules, ◌≡◌, arith}
use Rattle.std.specs.Prelude.{◌≢◌}
use Rattle.sja_serial.proofs.ManyBits.SomeBits.{still_lawful, none_then_one}
use Rattle.sja_serial.proofs.serial_run.SerialRun.run_resting_bits.Goals as goal

pub run_one_bit-requires : goal.run_one_bit-requires
run_one_bit-requires g c =
    let h = c.requires.0 in let none : c.run_idle_bits-bits.result ≡ 0 = search rules in
    let once = c.run_idle_bits-bits.ensures h.0 h.1 in let same = (once.none none).bits in
    let left = c.requires.1.0 in (
      (h.0, once.stands),
      (
        omega (arith, same, left),
        still_lawful g.setup h.0 c.args.self.now c.run_idle_bits-bits.new.self h.1 once.stands (once.none none)
            c.requires.1.1.0,
      ),
    )

pub returns-then-bits-eq0-clause-bits : goal.returns-then-bits-eq0-clause-bits
returns-then-bits-eq0-clause-bits g c = λ acts h.
    let once = c.run_idle_bits-bits.ensures acts h in let none : c.run_idle_bits-bits.result ≡ 0 = search rules in
    none_then_one g.setup acts c.args.self.now c.run_idle_bits-bits.new.self
    c.run_one_bit.new.self c.args.count
    c.run_idle_bits-bits.result once none (c.run_one_bit.ensures acts once.stands)

pub returns-clause-most : goal.returns-clause-most
returns-clause-most g c = let h = c.requires.0 in (c.run_idle_bits-bits.ensures h.0 h.1).within

pub returns-clause-bits : goal.returns-clause-bits
returns-clause-bits g c = λ acts h. let some : c.run_idle_bits-bits.result ≢ 0 = search rules in
    (c.run_idle_bits-bits.ensures acts h).some some
