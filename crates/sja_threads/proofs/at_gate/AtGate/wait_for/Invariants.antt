use Rattle.sja_threads.proofs.at_gate.AtGate.wait_for.Given as goal

abbrev pub invariant-loop : goal.invariant-loop
invariant-loop g l = record { asked : g.G.Gate.asks l.self.gate l.node l.step l.tries }
