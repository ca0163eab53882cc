use Rattle.std.proofs.Common.{refl}
use Rattle.sja_laws.proofs.OneNode.Stuck.{never_unmet}
use Rattle.sja_laws.proofs.step.a_step_that_is_done_has_not_to_wait.Goals as goal

pub returns : goal.returns
returns c = λ version whole other j k steps p q kept kept_now a past promised on is leads now at.
    never_unmet version whole other j steps kept p past promised on k q kept_now a is leads now at a.step refl
