use Rattle.std.proofs.Common.{◌<◌, ℕ}
use Rattle.std.specs.Prelude.{◌⊎◌, ◌↔◌, take}
use Rattle.sja_steps.specs.Striking.{Strikes}
use Rattle.sja_bus.specs.Inside.StrikesByBit.{IsAmong}
use Rattle.sja_bus.proofs.coming.struck_by.Given as goal

-- those that the strikes so far hit are struck too
abbrev pub invariant-loop-strike : goal.invariant-loop-strike
invariant-loop-strike l = (node : ℕ) → node < 8 →
    IsAmong node l.nodes ↔ (IsAmong node l.initial.nodes ⊎ Strikes (take l.strike-index l.strikes) l.bit node)
