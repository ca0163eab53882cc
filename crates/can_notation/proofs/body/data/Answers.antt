use Rattle.std.proofs.Common.{◌∙◌, ap, arith}
use Rattle.std.proofs.lemmas.List.{take_rest}
use Rattle.can_notation.specs.Digits.{capitals}
use Rattle.can_notation.proofs.RestLemmas.{long_rest, short_rest, long_said}
use Rattle.can_notation.proofs.body.data.Goals as goal

pub returns-in_err-bytes-clause-none : goal.returns-in_err-bytes-clause-none
returns-in_err-bytes-clause-none c = rw c.from_residual.ensures
    (λ dlc bytes is e.
    let (_, eight, front, _) = long_rest c.args.behind.now (omega arith) dlc bytes is e in
    c.in_err-bytes.ensures.none bytes (omega arith) is.fit front)

pub returns-in_err-dlc-clause-none : goal.returns-in_err-dlc-clause-none
returns-in_err-dlc-clause-none c = rw c.from_residual-in_err-dlc.ensures
    (λ dlc bytes is e.
    let (long, _, _, back) = long_rest c.args.behind.now (omega arith) dlc bytes is e in
    c.in_err-dlc.ensures.none dlc long is.dlc_small (ap capitals (take_rest c.args.behind.now 16) ∙ back))

pub returns-then-behind-eq-LONG_TEXT-clause-some : goal.returns-then-behind-eq-LONG_TEXT-clause-some
returns-then-behind-eq-LONG_TEXT-clause-some c =
    let (few, fit, front) = c.in_ok-bytes.ensures.some in
    let (long, small, back) = c.in_ok-dlc.ensures.some in
    long_said c.args.behind.now (omega arith) c.in_ok-dlc.dlc c.in_ok-bytes.bytes.items long small fit front back

pub returns-in_err-bytes-2-clause-none : goal.returns-in_err-bytes-2-clause-none
returns-in_err-bytes-2-clause-none c = rw c.from_residual-in_err-bytes-2.ensures
    (λ dlc bytes is e.
    let (short, size, whole) = short_rest c.args.behind.now (λ is. omega arith) dlc bytes is e in
    c.in_err-bytes-2.ensures.none bytes (omega arith) is.fit whole)
