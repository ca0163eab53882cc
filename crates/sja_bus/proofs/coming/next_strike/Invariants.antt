use Rattle.std.proofs.Common.{◌≡◌, ◌≤◌, ◌<◌, ℕ}
use Rattle.std.specs.Prelude.{◌⊎◌, take}
use Rattle.sja_steps.specs.Striking.{Strikes}
use Rattle.sja_bus.specs.Inside.StrikesByBit.{IsUnstruck}
use Rattle.sja_bus.proofs.coming.next_strike.Given as goal

-- the next bit that the strikes so far hit
abbrev pub invariant-loop-strike : goal.invariant-loop-strike
invariant-loop-strike l = record {
  on : l.from ≤ l.next;
  within : l.next ≤ l.end;
  quiet : IsUnstruck (take l.strike-index l.strikes) l.from l.next;
  stop : (l.next ≡ l.end) ⊎ ((node : ℕ) × (node < 8) × Strikes (take l.strike-index l.strikes) l.next node);
}
