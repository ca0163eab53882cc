use Rattle.std.proofs.Common.{◌≡◌, ◌∷◌, drop}
use Rattle.can_levels.specs.BusLevel.{wired}
use Rattle.text_trace.specs.TraceProgress.{driven_now}
use Rattle.text_trace.proofs.node_traces.bus_of.Given as goal

-- what the nodes so far drive, and what the others drive, is on the bus
abbrev pub invariant-loop-node_trace : goal.invariant-loop-node_trace
invariant-loop-node_trace l = wired (l.bus ∷ driven_now (drop l.node_trace-index l.node_traces)) ≡ wired
    (driven_now l.node_traces)
