use Rattle.std.proofs.Common.{rules, ◌≡◌, refl, arith}
use Rattle.sja_serial.specs.UntilTold.EndsUntilTold.{alone}
use Rattle.sja_serial.proofs.ManyBits.Telling.{run_told, lawful_still, left_still, one_told, run_one}
use Rattle.sja_serial.proofs.serial_run.SerialRun.run_some_bits.Goals as goal

-- ---- none was run, and so one is

pub run_one_bit-requires : goal.run_one_bit-requires
run_one_bit-requires g c =
    let none : c.run_untold_bits-bits.result ≡ 0 = search rules in
    let left = c.requires.1.1.0 in let some = c.requires.1.0 in (
      run_told c.requires.0 c.run_untold_bits-bits.ensures.bits,
      (
        left_still c.requires.0 c.run_untold_bits-bits.ensures.bits none (omega (arith, left, some)),
        lawful_still c.requires.0 c.run_untold_bits-bits.ensures.bits none c.requires.1.1.1,
      ),
    )

pub returns-then-bits-eq0-clause-bits : goal.returns-then-bits-eq0-clause-bits
returns-then-bits-eq0-clause-bits g c = let none : c.run_untold_bits-bits.result ≡ 0 = search rules in
    one_told c.requires.0 c.run_untold_bits-bits.ensures.bits none c.run_one_bit.ensures

pub returns-then-bits-eq0-clause-longest : goal.returns-then-bits-eq0-clause-longest
returns-then-bits-eq0-clause-longest g c = let none : c.run_untold_bits-bits.result ≡ 0 = search rules in
    alone refl (c.run_untold_bits-bits.ensures.none none)

pub returns-then-bits-eq0-clause-stays : goal.returns-then-bits-eq0-clause-stays
returns-then-bits-eq0-clause-stays g c = let none : c.run_untold_bits-bits.result ≡ 0 = search rules in
    run_one c.requires.0 c.run_untold_bits-bits.ensures.bits none c.run_one_bit.ensures

-- ---- or those that were run

pub returns-clause-calm : goal.returns-clause-calm
returns-clause-calm g c = λ two. c.run_untold_bits-bits.ensures.calm (λ none. c.if-bits-eq0.false none)

pub returns-clause-longest : goal.returns-clause-longest
returns-clause-longest g c = c.run_untold_bits-bits.ensures.longest (λ none. c.if-bits-eq0.false none)

pub returns-clause-stays : goal.returns-clause-stays
returns-clause-stays g c = run_told c.requires.0 c.run_untold_bits-bits.ensures.bits
