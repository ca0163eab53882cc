use Rattle.sja_driver.proofs.Trace.Fronts.{moment_is}
use Rattle.sja_promises.proofs.laws.a_moment_is_a_front.Goals as goal

pub returns : goal.returns
returns c = moment_is
