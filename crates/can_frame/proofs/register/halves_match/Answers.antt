use Rattle.std.proofs.Common.{arith, rules}
use Rattle.can_frame.proofs.RegisterLemmas.{is_true}
use Rattle.can_frame.proofs.register.halves_match.Goals as goal

-- an absent byte matches
pub returns-in_default : goal.returns-in_default
returns-in_default c = (search rules, λ _. is_true _ (omega arith))
