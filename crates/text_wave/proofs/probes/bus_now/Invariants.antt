use Rattle.std.proofs.Common.{◌≡◌, ◌∷◌, drop}
use Rattle.can_levels.specs.BusLevel.{wired}
use Rattle.text_wave.specs.Inside.Changes.{driven_now}
use Rattle.text_wave.proofs.probes.bus_now.Given as goal

-- what the nodes so far drive, and what the others drive, is on the bus
abbrev pub invariant-loop-probe : goal.invariant-loop-probe
invariant-loop-probe l = wired (l.bus ∷ driven_now (drop l.probe-index l.probes)) ≡ wired (driven_now l.probes)
