use Rattle.std.proofs.Common.{ap, arith, rules}
use Rattle.can_frame.specs.Message.{bit}
use Rattle.can_frame.proofs.RegisterLemmas.{is_true}
use Rattle.can_frame.proofs.filter.Filter.passes_dual_extended.Goals as goal

-- where the first filter passes the frame, it passes
pub returns-then-first : goal.returns-then-first
returns-then-first c = (search rules, λ _. is_true _ (omega (arith, ap bit c.if-first.true)))
