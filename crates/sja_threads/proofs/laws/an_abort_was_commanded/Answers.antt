use Rattle.sja_threads.proofs.Twin.Aborts.{commanded, had_commanded}
use Rattle.sja_threads.proofs.laws.an_abort_was_commanded.Goals as goal

pub returns-clause-stands : goal.returns-clause-stands
returns-clause-stands c = λ version told acts p led stands. commanded version told acts p led stands

pub returns-clause-found : goal.returns-clause-found
returns-clause-found c = λ version told acts p place many orders led there stands.
    had_commanded version told acts p place many orders led there stands
