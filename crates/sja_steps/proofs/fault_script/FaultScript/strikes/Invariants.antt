use Rattle.std.proofs.Common.{ℕ, ◌<◌}
use Rattle.std.specs.Prelude.{slice_index_or}
use Rattle.sja_steps.specs.Striking.{Hits}
use Rattle.sja_steps.proofs.fault_script.FaultScript.strikes.Given as goal

-- none of the strikes so far hits the node
abbrev pub invariant-loop-strike : goal.invariant-loop-strike
invariant-loop-strike l =
    (k : ℕ) (d : _) → k < l.strike-index → Hits (slice_index_or l.strike-items k d) l.bit l.node → ⊥
