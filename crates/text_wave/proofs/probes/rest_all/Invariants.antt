use Rattle.text_wave.specs.Inside.WaveRest.{ProbeRested}
use Rattle.lemmas.proofs.ChangedInTurn.{Part}
use Rattle.text_wave.proofs.probes.rest_all.Given as goal

-- so many went on
abbrev pub invariant-loop-k : goal.invariant-loop-k
invariant-loop-k l = Part (ProbeRested l.count) l.k l.initial.probes l.probes
