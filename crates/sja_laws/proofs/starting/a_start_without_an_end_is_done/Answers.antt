use Rattle.sja_laws.proofs.WholeRun.Starting.{start_is_done}
use Rattle.sja_laws.proofs.starting.a_start_without_an_end_is_done.Goals as goal

pub returns : goal.returns
returns c = λ s sizes capacity step_runs node before after d session endless at there split start reset.
    start_is_done s sizes capacity step_runs node session endless at there before after d split start reset
