use Rattle.sja_threads.proofs.Driver.Typed.{typed_steps}
use Rattle.sja_threads.proofs.laws.a_step_is_one_act_before_version_3.Goals as goal

pub returns : goal.returns
returns c = λ version set steps work typed follows. typed_steps version set steps work typed follows
