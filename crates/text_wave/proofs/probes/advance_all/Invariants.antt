use Rattle.text_wave.specs.Inside.Probes.{GoesOn}
use Rattle.lemmas.proofs.ChangedInTurn.{Part}
use Rattle.text_wave.proofs.probes.advance_all.Given as goal

-- so many went on
abbrev pub invariant-loop-k : goal.invariant-loop-k
invariant-loop-k l = Part GoesOn l.k l.initial.probes l.probes
