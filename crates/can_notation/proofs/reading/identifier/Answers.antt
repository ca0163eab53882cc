use Rattle.std.proofs.Common.{ℕ, Bool, true, false, ap, arith}
use Rattle.can_notation.proofs.IdentifierLemmas.{past_limit}
use Rattle.can_notation.proofs.reading.identifier.Goals.{in-3, in-8}
use Rattle.can_notation.proofs.reading.identifier.Goals as goal

pub returns-else-id-limit-clause-none : goal.returns-else-id-limit-clause-none
returns-else-id-limit-clause-none c = λ ext id few e.
    let (small, said) = c.in_ok-id.ensures.some in
    elim c.match-digits.branch [
      | in-3 w ↦
          let limit = ap (λ (p : Bool × ℕ). p.1) w.ext-is in
          past_limit c.args.digits.now false c.in_ok-id.id (omega arith) (omega arith) small said ext id few e
      | in-8 w ↦
          let limit = ap (λ (p : Bool × ℕ). p.1) w.ext-is in
          past_limit c.args.digits.now true c.in_ok-id.id (omega arith) (omega arith) small said ext id few e
    ]
