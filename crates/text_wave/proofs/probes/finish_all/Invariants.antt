use Rattle.text_wave.specs.Inside.Probes.{Finishes}
use Rattle.lemmas.proofs.ChangedInTurn.{Part}
use Rattle.text_wave.proofs.probes.finish_all.Given as goal

-- so many came to their ends
abbrev pub invariant-loop-k : goal.invariant-loop-k
invariant-loop-k l = Part Finishes l.k l.initial.probes l.probes
