use Rattle.std.proofs.Common.{arith}
use Rattle.can_notation.proofs.DigitLemmas.{room, read_more, no_digits}
use Rattle.can_notation.proofs.digits.number_of.Goals as goal

pub overflow_mul-n : goal.overflow_mul-n
overflow_mul-n c =
    let fits = room c.loop-digit.n c.loop-digit.digit-index c.loop-digit.invariant.small (omega arith) in
    omega (arith, fits)

pub overflow_add-n : goal.overflow_add-n
overflow_add-n c =
    let fits = room c.loop-digit.n c.loop-digit.digit-index c.loop-digit.invariant.small (omega arith) in
    let digit = c.in_ok-value_of.ensures.some.0 in
    omega (arith, fits, digit)

pub returns-in_err-value_of-clause-none : goal.returns-in_err-value_of-clause-none
returns-in_err-value_of-clause-none c =
    rw c.from_residual.ensures (no_digits c.args.digits.now c.loop-digit.digit-index c.loop-digit-test.true
    c.in_err-value_of.ensures.none)

pub loop-digit-preserved : goal.loop-digit-preserved
loop-digit-preserved c =
    let (digit, last) = c.in_ok-value_of.ensures.some in
    let (small, said) = read_more c.args.digits.now c.loop-digit.digit-index c.loop-digit.n c.in_ok-value_of.field-0
    c.loop-digit-test.true c.loop-digit.invariant.small c.loop-digit.invariant.said digit last in
    rw c.from.ensures (record { small = small; said = said })
