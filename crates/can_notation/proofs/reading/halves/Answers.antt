use Rattle.std.proofs.Common.{◌+◌, ◌∙◌, sym}
use Rattle.std.proofs.lemmas.List.{take_rest}
use Rattle.can_notation.proofs.HashLemmas.{found, absent}
use Rattle.can_notation.proofs.reading.halves.Goals as goal

pub returns-in_err-place-clause-none : goal.returns-in_err-place-clause-none
returns-in_err-place-clause-none c =
    rw c.from_residual.ensures (absent c.args.text.now (sym c.in_err-place.ensures))

pub returns-clause-some : goal.returns-clause-some
returns-clause-some c =
    let (has, front, back) = found c.args.text.now c.in_ok-place.place (sym c.in_ok-place.ensures) in
    (has, front, take_rest c.args.text.now (c.in_ok-place.place + 1) ∙ back)
