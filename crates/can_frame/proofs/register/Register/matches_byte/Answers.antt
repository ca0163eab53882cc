use Rattle.std.proofs.Common.{arith, rules}
use Rattle.can_frame.proofs.RegisterLemmas.{is_true}
use Rattle.can_frame.proofs.register.Register.matches_byte.Goals as goal

-- an absent byte matches
pub returns-in-None : goal.returns-in-None
returns-in-None c = (search rules, λ _. is_true _ (omega arith))
