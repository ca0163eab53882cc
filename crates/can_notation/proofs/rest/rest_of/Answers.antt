use Rattle.std.proofs.Common.{◌∙◌, ap}
use Rattle.std.proofs.lemmas.List.{take_rest}
use Rattle.can_notation.specs.Digits.{capitals}
use Rattle.can_notation.proofs.RestLemmas.{remote_rest}
use Rattle.can_notation.proofs.rest.rest_of.Goals as goal

pub returns-in_err-dlc-clause-none : goal.returns-in_err-dlc-clause-none
returns-in_err-dlc-clause-none c = rw c.from_residual.ensures
    (λ rtr dlc bytes is e.
    let begins = c.is_remote.ensures.0 c.if-is_remote.true in
    let (_, tail) = remote_rest c.args.behind.now begins rtr dlc bytes is e in
    c.in_err-dlc.ensures.none dlc is.dlc_small (ap capitals (take_rest c.args.behind.now 1) ∙ tail))
